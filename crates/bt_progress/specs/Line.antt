-- The line that tells how far some work is.
use Rattle.std.specs.Prelude.{ℕ, Option, None, Some, ◌-◌, ◌*◌, ◌/◌, ◌%◌, ◌^◌, ◌==◌, ◌||◌, ◌++◌, if◌then◌else◌, List, [], codes, nat_lt}
use Rattle.std.specs.Fmt.{decimal}
use Rattle.bt_progress.specs.Meter.{percent, rate}

-- ---- numbers of bytes (IEC 80000-13, "binary prefixes")

abbrev pub kibibyte : ℕ
kibibyte = 2 ^ 10

abbrev pub mebibyte : ℕ
mebibyte = 2 ^ 20

abbrev pub gibibyte : ℕ
gibibyte = 2 ^ 30

abbrev pub tebibyte : ℕ
tebibyte = 2 ^ 40

-- in tenths of a unit, which are cut and not rounded
abbrev pub tenths_text : ℕ → ℕ → List ℕ → List ℕ
tenths_text bytes unit name =
    decimal (bytes / unit) ++ codes "." ++ decimal (bytes % unit * 10 / unit) ++ codes " " ++ name

-- in the greatest unit that they reach
abbrev pub size_text : ℕ → List ℕ
size_text bytes =
    if nat_lt bytes kibibyte then decimal bytes ++ codes " B"
    else if nat_lt bytes mebibyte then tenths_text bytes kibibyte (codes "KiB")
    else if nat_lt bytes gibibyte then tenths_text bytes mebibyte (codes "MiB")
    else if nat_lt bytes tebibyte then tenths_text bytes gibibyte (codes "GiB")
    else tenths_text bytes tebibyte (codes "TiB")

-- ---- times

abbrev pub time_text : ℕ → List ℕ
time_text seconds =
    if nat_lt seconds 60 then decimal seconds ++ codes " s"
    else if nat_lt seconds 3600
    then decimal (seconds / 60) ++ codes " min " ++ decimal (seconds % 60) ++ codes " s"
    else decimal (seconds / 3600) ++ codes " h " ++ decimal (seconds / 60 % 60) ++ codes " min"

-- ---- the line

-- of this many bytes, and the hundredths of them
unfoldable pub all_text : ℕ → ℕ → List ℕ
all_text all hundredths = codes " of " ++ size_text all ++ codes " (" ++ decimal hundredths ++ codes "%)"

-- how much is done, of all where that is known
abbrev pub share_text : ℕ → ℕ → List ℕ
share_text done all = size_text done ++ (if all == 0 then [] else all_text all (percent done all))

-- how many peers are there
abbrev pub count_text : ℕ → List ℕ
count_text count = if count == 1 then codes ", 1 peer" else codes ", " ++ decimal count ++ codes " peers"

-- the same, where many come at once
abbrev pub peers_text : Option ℕ → List ℕ
peers_text None = []
peers_text (Some count) = count_text count

-- the bytes a second
unfoldable pub rate_text : ℕ → List ℕ
rate_text speed = codes ", " ++ size_text speed ++ codes "/s"

-- how long the rest takes
unfoldable pub left_text : ℕ → List ℕ
left_text seconds = codes ", " ++ time_text seconds ++ codes " left"

-- the speed, and how long the rest takes at it
abbrev pub speed_text : ℕ → ℕ → ℕ → List ℕ
speed_text done all speed =
    rate_text speed ++ (if all == 0 || speed == 0 then [] else left_text ((all - done) / speed))

abbrev pub line_text : ℕ → ℕ → Option ℕ → ℕ → List ℕ
line_text done all peers millis =
    share_text done all ++ peers_text peers ++ speed_text done all (rate done millis)
