-- The letters of bencoding (BEP 3, "bencoding") as ASCII codes, and the limit of this project on nesting.
use Rattle.std.specs.Prelude.{ℕ}

-- begins an integer
abbrev pub letter_i : ℕ
letter_i = 105

-- begins a list
abbrev pub letter_l : ℕ
letter_l = 108

-- begins a dictionary
abbrev pub letter_d : ℕ
letter_d = 100

-- ends an integer, a list and a dictionary
abbrev pub letter_e : ℕ
letter_e = 101

-- stands between a string's length and its bytes
abbrev pub colon : ℕ
colon = 58

-- stands before the digits of an integer below zero
abbrev pub minus : ℕ
minus = 45

abbrev pub digit_zero : ℕ
digit_zero = 48
