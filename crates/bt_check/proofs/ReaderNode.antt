-- Lemmas on the bytes below a node, which are read in runs of whole blocks.
use Rattle.std.proofs.Common.{◌≡◌, ℕ, ◌+◌, ◌-◌, ◌*◌, ◌%◌, ◌^◌, ◌<◌, ◌≤◌, ◌⊎◌, inl, inr, min, List, [], ◌++◌, Option, arith, length, take, drop, refl, sym, ap, ◌∙◌, length-append, take_all, subst, length-take-le}
use Rattle.std.proofs.KnownBytes.{Consumes-nil, Consumes-trans}
use Rattle.std.proofs.lemmas.Bool.{cases_lt}
use Rattle.std.proofs.lemmas.List.{take-take, drop-take, drop-drop}
use Rattle.std.specs.Io.KnownBytes.{Consumes}
use Rattle.sha2.specs.Sha256.{sha256}
use Rattle.bt_tree.specs.Blocks.{block_count, HasRun}
use Rattle.bt_tree.specs.RootBuilder.{BuilderState, BuildsFrom, IsNextRun, TakesBlocks, first_block, next_block, node_end}
use Rattle.bt_check.specs.Reader.{Gives, LosesFront, EndsEarly}
use lib.Seq.{take-append-le, drop_at}

-- What a reader gave so far of the bytes below a node: they were pushed, and `rest` bytes are left.
pub record IsReading (old new : Option (List ℕ)) (asked rest : ℕ) (first b : BuilderState) : Type 0 where
  pub front : List ℕ
  pub taken : Consumes old new front
  pub count : length front + rest ≡ asked
  pub whole : 0 < rest → length front % 16384 ≡ 0
  pub takes : TakesBlocks first b (block_count (length front))
  pub from : (file : List ℕ) → BuildsFrom sha256 first file → HasRun file (16384 * first_block first) front → BuildsFrom sha256 b file

pub reading_begun : (known : Option (List ℕ)) (asked : ℕ) (b : BuilderState) → IsReading known known asked asked b b
reading_begun known asked b = record {
  front = [];
  taken = Consumes-nil known;
  count = omega arith;
  whole = λ _. refl;
  takes = record { file_length = refl; layer = refl; index = refl; count = omega arith };
  from = λ file from here. from;
}

pub same_place : (first b : BuilderState) (n : ℕ) → TakesBlocks first b n → first_block b ≡ first_block first
same_place first b n t = ap (λ i. i * 2 ^ b.layer) t.index ∙ ap (λ k. first.index * 2 ^ k) t.layer

same_span : (first b : BuilderState) (n : ℕ) → TakesBlocks first b n → 2 ^ b.layer ≡ 2 ^ first.layer
same_span first b n t = ap (λ k. 2 ^ k) t.layer

-- the next byte to be pushed is the one after those that came
next_byte : (old new : Option (List ℕ)) (asked rest : ℕ) (first b : BuilderState) → first.count ≡ 0 → 0 < rest
    → (r : IsReading old new asked rest first b) → 16384 * next_block b ≡ 16384 * first_block first + length r.front
next_byte old new asked rest first b fresh some r =
    let place = same_place first b _ r.takes in
    let count = r.takes.count in
    let even = r.whole some in
    omega (arith, place, count, even, fresh)

min_is : (a b : ℕ) → (min a b ≡ a) ⊎ (min a b ≡ b)
min_is a b = elim (cases_lt a b) [ inl less ↦ inl (omega arith) | inr more ↦ inr (omega arith) ]

-- a run of whole blocks, or up to the node's end
pub record IsWanted (wanted rest : ℕ) : Type 0 where
  pub some : 0 < wanted
  pub fits : wanted ≤ rest
  pub whole : (wanted % 16384 ≡ 0) ⊎ (wanted ≡ rest)

pub next_run : (old new : Option (List ℕ)) (asked rest wanted : ℕ) (first b : BuilderState) → first.count ≡ 0
    → 16384 * first_block first + asked ≡ node_end first → IsWanted wanted rest → IsReading old new asked rest first b → IsNextRun b wanted
next_run old new asked rest wanted first b fresh all w r =
    let next = next_byte old new asked rest first b fresh (omega (arith, w.some, w.fits)) r in
    let place = same_place first b _ r.takes in
    let span = same_span first b _ r.takes in
    let size = r.takes.file_length in
    let so_far = r.count in
    let even = r.whole (omega (arith, w.some, w.fits)) in
    record {
      some = w.some;
      inside = omega (arith, next, place, span, size, so_far, all, w.fits);
      whole = elim w.whole [
        | inl full ↦ inl full
        | inr last ↦ elim (min_is (16384 * (first_block first + 2 ^ first.layer)) first.file_length) [
          | inl inner ↦ inl (omega (arith, last, even, so_far, all, inner))
          | inr outer ↦ inr (omega (arith, next, last, so_far, all, outer, size))
        ]
      ];
    }

-- the first part of a run lies where the run does
pub front_has_run : (file front part : List ℕ) (start : ℕ) → HasRun file start (front ++ part) → HasRun file start front
front_has_run file front part start here =
    let size = length-append front part in
    sym (take-take (length front) (length (front ++ part)) (drop start file) (omega (arith, size)))
    ∙ ap (take (length front)) here ∙ take-append-le (length front) front part (omega arith) ∙ take_all (length front) front (omega arith)

-- and the other part after it
pub part_has_run : (file front part : List ℕ) (start next : ℕ) → next ≡ start + length front → HasRun file start (front ++ part) → HasRun file next part
part_has_run file front part start next e here =
    let size = length-append front part in
    let m : ℕ = length part in
    ap (λ n. take m (drop n file)) e ∙ ap (take m) (sym (drop-drop (length front) start file))
    ∙ sym (drop-take (length front) m (drop start file)) ∙ ap (λ n. drop (length front) (take n (drop start file))) (sym size)
    ∙ ap (drop (length front)) here ∙ drop_at front part (length front) refl

pub reading_more : (old mid new : Option (List ℕ)) (asked rest wanted : ℕ) (first b next : BuilderState) (part : List ℕ) → first.count ≡ 0
    → IsWanted wanted rest → IsReading old mid asked rest first b → Consumes mid new part → length part ≡ wanted
    → TakesBlocks b next (block_count (length part))
    → ((file : List ℕ) → BuildsFrom sha256 b file → HasRun file (16384 * next_block b) part → BuildsFrom sha256 next file)
    → IsReading old new asked (rest - wanted) first next
reading_more old mid new asked rest wanted first b next part fresh w r came size takes from =
    let some : 0 < rest = omega (arith, w.some, w.fits) in
    let even = r.whole some in
    let so_far = r.count in
    let joined = length-append r.front part in
    let before = r.takes.count in
    let more = takes.count in
    record {
      front = r.front ++ part;
      taken = Consumes-trans old mid new r.front part r.taken came;
      count = omega (arith, joined, so_far, size, w.fits);
      whole = λ left. elim w.whole [
        | inl full ↦ omega (arith, joined, even, full, size)
        | inr last ↦ absurd (omega (arith, left, last))
      ];
      takes = record {
        file_length = takes.file_length ∙ r.takes.file_length;
        layer = takes.layer ∙ r.takes.layer;
        index = takes.index ∙ r.takes.index;
        count = omega (arith, joined, even, before, more);
      };
      from = λ file started here.
          from file (r.from file started (front_has_run file r.front part _ here))
          (part_has_run file r.front part _ _ (next_byte old mid asked rest first b fresh some r) here);
    }

-- the reader had fewer bytes than were wanted
pub reading_early : (old mid new : Option (List ℕ)) (asked rest wanted : ℕ) (first b : BuilderState) (part : List ℕ) → wanted ≤ rest
    → IsReading old mid asked rest first b → Gives mid new wanted part → length part < wanted → EndsEarly old new asked
reading_early old mid new asked rest wanted first b part fits r gives short =
    let so_far = r.count in
    let joined = length-append r.front part in
    record {
      bytes = r.front ++ part;
      given = record {
        taken = Consumes-trans old mid new r.front part r.taken gives.taken;
        within = omega (arith, joined, so_far, fits, short);
        ended = λ _. gives.ended short;
      };
      short = omega (arith, joined, so_far, fits, short);
    }

pub reading_lost : (old mid new : Option (List ℕ)) (asked rest : ℕ) (first b : BuilderState) → IsReading old mid asked rest first b
    → LosesFront mid new → LosesFront old new
reading_lost old mid new asked rest first b r lost =
    record { lost = r.front ++ lost.lost; taken = Consumes-trans old mid new r.front lost.lost r.taken lost.taken }

-- as much as the buffer holds, or as is left
pub wanted_of : (rest wanted : ℕ) → 0 < rest → wanted ≡ min rest 131072 → IsWanted wanted rest
wanted_of rest wanted some e = record {
  some = omega arith;
  fits = omega arith;
  whole = elim (cases_lt rest 131072) [ inl less ↦ inr (omega arith) | inr more ↦ inl (omega arith) ];
}

-- the whole buffer came
pub all_came : (old new : Option (List ℕ)) (count wanted : ℕ) (buffer : List ℕ) → length buffer ≡ wanted → wanted ≤ count
    → Gives old new (length buffer) (take count buffer) → Consumes old new buffer
all_came old new count wanted buffer size full gives =
    subst (Consumes old new) (take_all count buffer (omega (arith, size, full))) gives.taken

-- some of it did not
pub some_came : (old mid new : Option (List ℕ)) (asked rest count wanted : ℕ) (first b : BuilderState) (buffer : List ℕ) → wanted ≤ rest
    → IsReading old mid asked rest first b → length buffer ≡ wanted → count < wanted → Gives mid new (length buffer) (take count buffer)
    → EndsEarly old new asked
some_came old mid new asked rest count wanted first b buffer fits r size short gives =
    let came : length (take count buffer) ≡ count = length-take-le count buffer (omega (arith, size, short)) in
    reading_early old mid new asked rest wanted first b (take count buffer) fits r
    (subst (λ n. Gives mid new n (take count buffer)) size gives) (omega (arith, came, short))
