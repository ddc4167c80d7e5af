-- Where the files so far lie: for private steps.
use Rattle.std.specs.Prelude.{◌≡◌, ℕ, ◌≤◌, if◌then◌else◌, List, Option, None, Some}
use Rattle.std.specs.List.{AllZip}
use Rattle.std.specs.BTreeMap.{get}
use Rattle.bt_meta.specs.Files.{File}
use Rattle.bt_check.specs.TreeSteps.{key_cmp, tree_key}
use Rattle.bt_parts.specs.declared.cut.TheConstants.{MAX_TOTAL}
use Rattle.bt_jobs.specs.Plan.{IsCutOf, has_twin, place_of, total_of}
use Rattle.bt_jobs.specs.declared.plan.Places.{Places}
use Rattle.bt_jobs.specs.declared.plan.Plan.{Plan}

-- where a file's root and length are known to lie
abbrev pub place_in : Places → File → Option ℕ
place_in places file = get key_cmp places.known (tree_key file)

-- These files were given their places, and no others.
pub record ArePlacesOf (files : List File) (places : Places) : Type 0 where
  pub known : (file : File)
      → place_in places file ≡ (if has_twin files file then Some (place_of files file) else None)
  pub total : places.total ≡ total_of files

-- how a torrent's files are cut, in pieces of 2 ^ layer blocks, and how many bytes are counted in all
pub record IsPlanOf (layer : ℕ) (files : List File) (plan : Plan) : Type 0 where
  pub total : plan.total ≡ total_of files
  pub cuts : AllZip (IsCutOf layer files) files plan.cuts.items
  pub few : plan.total ≤ MAX_TOTAL
