-- The lines of a script.
use Rattle.std.specs.Prelude.{[], ◌≡◌, ℕ, ◌-◌, ◌^◌, ◌<◌, List, ◌∷◌, codes}
use Rattle.bt_book.specs.declared.names.PeerKey.{PeerKey}
use Rattle.bt_replay.specs.Field.{IsHex, IsNumber, parts_of}
use Rattle.bt_replay.specs.declared.line.Line.{Line}
use Rattle.bt_replay.specs.declared.line.Line.TheVariants.{Torrent, Fault, Flip, Connect, Hello, Feed, Next, Lost, Rechoke, Adopt, Flush, Restart, Report}
use Rattle.bt_replay.specs.declared.word.Word.{Word}
use Rattle.bt_replay.specs.declared.word.Word.TheVariants.{Torrent as torrent, Fault as fault, Flip as flip, Connect as connect, Hello as hello, Feed as feed, Next as next, Lost as lost, Rechoke as rechoke, Adopt as adopt, Flush as flush, Restart as restart, Report as report}

-- ---- the fields after a line's word

-- a peer's key, and nothing after it
pub record IsPeer (fields : List (List ℕ)) (key : PeerKey) : Type 0 where
  pub field : List ℕ
  pub only : fields ≡ field ∷ []
  pub number : IsNumber (2 ^ 64) field key.0

-- a file's number, and nothing after it
pub record IsFile (fields : List (List ℕ)) (file : ℕ) : Type 0 where
  pub field : List ℕ
  pub only : fields ≡ field ∷ []
  pub number : IsNumber (2 ^ 32) field file

-- bytes, and nothing after them
pub record IsBytes (fields : List (List ℕ)) (bytes : List ℕ) : Type 0 where
  pub field : List ℕ
  pub only : fields ≡ field ∷ []
  pub hex : IsHex field bytes

-- a peer's key, and bytes
pub record IsPeerAndBytes (fields : List (List ℕ)) (key : PeerKey) (bytes : List ℕ) : Type 0 where
  pub field : List ℕ
  pub rest : List (List ℕ)
  pub both : fields ≡ field ∷ rest
  pub number : IsNumber (2 ^ 64) field key.0
  pub bytes_follow : IsBytes rest bytes

-- the number of a call that may be set to fail, or to flip a bit: from 1 to 2 ^ 64 - 2
pub record IsCall (field : List ℕ) (call : ℕ) : Type 0 where
  pub number : IsNumber (2 ^ 64 - 1) field call
  pub some : 0 < call

-- a file's number and a call's
pub record IsFileAndCall (fields : List (List ℕ)) (file call : ℕ) : Type 0 where
  pub first : List ℕ
  pub second : List ℕ
  pub both : fields ≡ first ∷ second ∷ []
  pub number : IsNumber (2 ^ 32) first file
  pub call_number : IsCall second call

-- and the place of a byte
pub record IsFileCallAndPlace (fields : List (List ℕ)) (file call at : ℕ) : Type 0 where
  pub first : List ℕ
  pub second : List ℕ
  pub third : List ℕ
  pub all : fields ≡ first ∷ second ∷ third ∷ []
  pub number : IsNumber (2 ^ 32) first file
  pub call_number : IsCall second call
  pub place : IsNumber (2 ^ 64) third at

-- ---- lines

-- the word that a line begins with
abbrev pub word_text : Word → List ℕ
word_text torrent = codes "torrent"
word_text fault = codes "fault"
word_text flip = codes "flip"
word_text connect = codes "connect"
word_text hello = codes "hello"
word_text feed = codes "feed"
word_text next = codes "next"
word_text lost = codes "lost"
word_text rechoke = codes "rechoke"
word_text adopt = codes "adopt"
word_text flush = codes "flush"
word_text restart = codes "restart"
word_text report = codes "report"

-- the line that a word and these fields make
abbrev pub Makes : Word → List (List ℕ) → Line → Type 0
Makes torrent fields line = (bytes : List ℕ) × IsBytes fields bytes × (line ≡ Torrent bytes)
Makes fault fields line = (file call : ℕ) × IsFileAndCall fields file call × (line ≡ Fault file call)
Makes flip fields line =
    (file call at : ℕ) × IsFileCallAndPlace fields file call at × (line ≡ Flip file call at)
Makes connect fields line = (fields ≡ []) × (line ≡ Connect)
Makes hello fields line = (key : PeerKey) × IsPeer fields key × (line ≡ Hello key)
Makes feed fields line =
    (key : PeerKey) × (bytes : List ℕ) × IsPeerAndBytes fields key bytes × (line ≡ Feed key bytes)
Makes next fields line = (key : PeerKey) × IsPeer fields key × (line ≡ Next key)
Makes lost fields line = (key : PeerKey) × IsPeer fields key × (line ≡ Lost key)
Makes rechoke fields line = (fields ≡ []) × (line ≡ Rechoke)
Makes adopt fields line = (file : ℕ) × IsFile fields file × (line ≡ Adopt file)
Makes flush fields line = (fields ≡ []) × (line ≡ Flush)
Makes restart fields line = (fields ≡ []) × (line ≡ Restart)
Makes report fields line = (fields ≡ []) × (line ≡ Report)

-- A text spells a line: fields that are parted by one space, of which the first is the word.
pub record Spells (text : List ℕ) (line : Line) : Type 0 where
  pub word : Word
  pub fields : List (List ℕ)
  pub parted : parts_of 32 text ≡ word_text word ∷ fields
  pub makes : Makes word fields line

-- bytes stand in a line: to keep them takes memory
abbrev pub HasBytes : Line → Type 0
HasBytes (Torrent bytes) = Unit {0}
HasBytes (Feed key bytes) = Unit {0}
HasBytes _ = ⊥

-- it spells one in which bytes stand
pub record SpellsBytes (text : List ℕ) : Type 0 where
  pub line : Line
  pub spells : Spells text line
  pub has : HasBytes line

-- it spells none
abbrev pub SpellsNone : List ℕ → Type 0
SpellsNone text = (line : Line) → ¬ Spells text line
