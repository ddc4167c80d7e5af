-- The digests of a file's next bytes: steps that only private functions cite.
use Rattle.std.specs.Prelude.{◌≡◌, ℕ, List, Option, length}
use Rattle.bt_check.specs.Digests.{IsPieceLayer, AreDigestsOf}
use Rattle.bt_check.specs.Reader.{Gives}
use Rattle.bt_check.specs.declared.digests.Digests.{Digests}

-- a reader gave as many bytes as it was asked for, and these are their pieces' digests
pub record GivesLayer (old new : Option (List ℕ)) (file_length layer : ℕ) (bytes : List ℕ) : Type 0 where
  pub file : List ℕ
  pub given : Gives old new file_length file
  pub whole : length file ≡ file_length
  pub layer_is : IsPieceLayer file layer bytes

-- and these are their digests
pub record GivesFile (old new : Option (List ℕ)) (file_length layer : ℕ) (digests : Digests) : Type 0 where
  pub file : List ℕ
  pub given : Gives old new file_length file
  pub whole : length file ≡ file_length
  pub are : AreDigestsOf file layer digests
