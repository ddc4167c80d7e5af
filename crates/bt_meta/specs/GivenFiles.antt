-- The files that a torrent is made of, and the order of a file tree (BEP 52, "file tree").
use Rattle.std.specs.Prelude.{◌≡◌, ℕ, ◌+◌, ◌<◌, Bool, false, List, length, map, get_or, string_bytes, nat_eq}
use Rattle.std.specs.List.{starts_with}
use Rattle.std.specs.Ordering.{nat_cmp, is_lt}
use Rattle.std.specs.declared.cmp.Ordering.{Ordering}
use Rattle.std.specs.declared.cmp.Ordering.TheVariants.{Less}
use Rattle.std.specs.List.Sorted.{IsPermutation, IsSortedBy}
use Rattle.std.specs.Cmp.Lexicographic.{pointwise, slice_cmp}
use Rattle.bt_meta.specs.Files.{Content}
use Rattle.bt_meta.specs.declared.writer.Made.{Made}

-- a file that a torrent is made of
pub record Given : Type 0 where
  pub path : List (List ℕ)
  pub length : ℕ
  pub root : List ℕ
  pub layer : List ℕ

abbrev pub given_of : Made → Given
given_of m = record {
  path = map string_bytes m.path.items;
  length = m.length;
  root = m.root;
  layer = m.layer.items;
}

-- what a file is compared by
abbrev pub content_given : Given → Content
content_given f = record { length = f.length; root = f.root }

-- the file's root is a digest of 32 bytes, as any is in memory
abbrev pub HasRoot : Given → Type 0
HasRoot f = length f.root ≡ 32

-- the first path begins the second, or is the second
abbrev pub begins : List (List ℕ) → List (List ℕ) → Bool
begins path other = starts_with (pointwise nat_eq) other path

-- the order of a file tree: by the elements of the paths, each by its bytes
abbrev pub path_order : List (List ℕ) → List (List ℕ) → Ordering
path_order = slice_cmp (slice_cmp nat_cmp)

abbrev pub is_before : Given → Given → Bool
is_before f g = is_lt (path_order f.path g.path)

-- the same files, with no path before that of an earlier one
pub record IsInTreeOrder (files ordered : List Given) : Type 0 where
  pub same : IsPermutation files ordered
  pub ascending : IsSortedBy is_before ordered

-- the first path stands before the second, and does not begin it
abbrev pub IsSeparate : List (List ℕ) → List (List ℕ) → Type 0
IsSeparate path next = (path_order path next ≡ Less) × (begins path next ≡ false)

-- the paths are those of a tree's files, in its order: each stands before the next one, and does not begin it
abbrev pub HaveTreePaths : List Given → Type 0
HaveTreePaths files = (k : ℕ) (d : Given) → k + 1 < length files
    → IsSeparate (get_or files k d).path (get_or files (k + 1) d).path
