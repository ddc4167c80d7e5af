-- How much of some work is done, in bytes.
use Rattle.std.specs.Prelude.{ℕ, ◌+◌, ◌-◌, ◌*◌, ◌/◌, ◌^◌, min, max}

-- this many bytes more, in a count of 64 bits, which stays at its greatest value
abbrev pub count_with : ℕ → ℕ → ℕ
count_with count bytes = min (2 ^ 64 - 1) (count + bytes)

-- how many whole MiB bytes make
abbrev pub mebibytes : ℕ → ℕ
mebibytes bytes = bytes / 2 ^ 20

-- the hundredths of all that are done, and no more than there are
abbrev pub percent : ℕ → ℕ → ℕ
percent done all = min 100 (done * 100 / all)

-- bytes a second, in a time of a millisecond or more
abbrev pub rate : ℕ → ℕ → ℕ
rate done millis = done * 1000 / max 1 millis
