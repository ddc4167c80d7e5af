-- The sizes of the log's formats, which are this project's own.
use Rattle.std.specs.Prelude.{ℕ, ◌+◌, ◌*◌, ◌^◌}
use Rattle.bt_tree.specs.Limits.{digest_length}
use Rattle.bt_hashreq.specs.Claim.{max_digests}

-- the header's length in bytes, in both formats
abbrev pub header_length : ℕ
header_length = 40

-- how many bytes a log has at most
abbrev pub max_log_length : ℕ
max_log_length = 2 ^ 40

-- no hint has more bytes than a proof: 49, and those of its digests
abbrev pub max_hint_length : ℕ
max_hint_length = 49 + digest_length * max_digests

-- no more are appended for a hint: the byte after which a log goes on in format 2, and its own
abbrev pub max_appended_length : ℕ
max_appended_length = 1 + max_hint_length

-- how many bytes a run of marks has, in format 2
abbrev pub run_length : ℕ
run_length = 13
