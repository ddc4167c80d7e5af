use Rattle.std.proofs.Common.{◌≡◌, ◌++◌, length, take, drop, refl, ap, sym, ◌∙◌, rules}
use Rattle.std.proofs.lemmas.List.{take_at}
use Rattle.bt_disk.specs.Calls.{bytes_given, read_fault}
use Rattle.bt_disk.proofs.CallLists.{has_one}
use Rattle.bt_devices.specs.Cache.{blocks_of}
use Rattle.bt_devices.proofs.Runs.{known_whole, known_short}
use Rattle.bt_devices.proofs.cache.DigestCache.take_run.Goals as goal

pub returns-in_default : goal.returns-in_default
returns-in_default g c =
    let d = g.D.Disk in
    let w = c.in_default.ensures in
    let out = c.read_at.new.out in
    let size : length out ≡ 131072 = search rules in
    let call = read_fault c.args.at (length out) in
    record {
      call = call;
      run_read = (refl, size);
      known = refl;
      made = has_one d.conduct c.args.disk.now call c.read_at.new.self w.counted w.as_honest w.answered;
    }

pub returns-then-count-eq-RUN_LEN : goal.returns-then-count-eq-RUN_LEN
returns-then-count-eq-RUN_LEN g c =
    let d = g.D.Disk in
    let w = c.in-Ok.ensures in
    let out = c.read_at.new.out in
    let count = c.in-Ok.count in
    let size : length out ≡ 131072 = search rules in
    let call = bytes_given c.args.at (length out) (take count out) in
    let back : take c.self.inside.run.len (out ++ drop (length out) c.self.inside.run.items) ≡ out = take_at _ _ _ (search rules) in
    record {
      call = call;
      run_read = (refl, size);
      known = ap blocks_of back ∙ known_whole c.args.at count out (c.if-count-eq-RUN_LEN.true ∙ sym size);
      made = has_one d.conduct c.args.disk.now call c.read_at.new.self w.counted w.as_honest w.answered;
    }

pub returns-else-count-eq-RUN_LEN : goal.returns-else-count-eq-RUN_LEN
returns-else-count-eq-RUN_LEN g c =
    let d = g.D.Disk in
    let w = c.in-Ok.ensures in
    let out = c.read_at.new.out in
    let count = c.in-Ok.count in
    let size : length out ≡ 131072 = search rules in
    let call = bytes_given c.args.at (length out) (take count out) in
    record {
      call = call;
      run_read = (refl, size);
      known = known_short c.args.at count out w.within (λ all. c.if-count-eq-RUN_LEN.false (all ∙ size));
      made = has_one d.conduct c.args.disk.now call c.read_at.new.self w.counted w.as_honest w.answered;
    }
