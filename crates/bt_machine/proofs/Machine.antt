-- The names of the machine's definitions that proofs cite, in one place.
use Rattle.bt_machine.proofs.Base.{ℕ, List}
pub use Rattle.bt_machine.specs.Adopting.{StepAdopt, no_file, busy, empty, adopts, no_memory as not_adopted, AdoptsGroups, AdoptsGroup, is_other, AdoptsFile, StopsAdopting, group_blocks, run_starts}
pub use Rattle.bt_machine.specs.Arrival.{arrives, stale, HandlesPiece, HasPutEffect, Arrives}
pub use Rattle.bt_machine.specs.Blocks.{with_peer, state_at, tree_of, with_file, with_tree, block_id, file_numbers, new_marked_blocks}
pub use Rattle.bt_machine.specs.Crash.{StepKeepsImages}
pub use Rattle.bt_machine.specs.Devices.{DeviceCalls, reads_at, calls_at, calls_of}
pub use Rattle.bt_machine.specs.Flush.{StepFlush, syncs, writes, fails, unwritten, unflushed, syncs_of, data_files, synced_then}
pub use Rattle.bt_machine.proofs.Laws.{StepSendsReadBytes, StepKeepsMarks}
pub use Rattle.bt_machine.specs.LogCalls.{LogCall, EventCalls, HaveLogCalls}
pub use Rattle.bt_machine.specs.FollowUp.{FollowsUp, rests, requests, interest_sent, RequestsHashes, RequestsEach}
pub use Rattle.bt_machine.specs.Hints.{add_hints}
pub use Rattle.bt_machine.specs.HashMessages.{accepts_hashes, unknown_root, refused, HandlesHashes, no_claim, rejected, HandlesHashRequest, answered, IsTreeOf, settled_count}
pub use Rattle.bt_machine.specs.Headline.{IsPublished, CompleteFilesArePublished}
pub use Rattle.bt_machine.specs.Law.{sent_by, read_back, IsMarkedBy, found, brought, recovered, IsRecovered, IsSoAt, AreRooted, StepKeepsRooted, StepMarksByBytes, IsFound, IsMarkedIn, AreChecked, IsServed}
pub use Rattle.bt_machine.specs.Next.{keeps_peer, StepNext, closes, waits, faulty, no_peer, no_memory, IsPeer, TakesEvent, without_peer, with_pending}
pub use Rattle.bt_machine.specs.Orderly.{IsOrderly, IsOrderlyPeer, StepKeepsOrder, RunsAreOrderly}
pub use Rattle.bt_machine.specs.Output.{Sent, Effect, haves, sent_to, noting, sending}
pub use Rattle.bt_machine.specs.Peers.{no_memory as no_room, no_peer as not_fed, StepConnect, joins, StepFeed, feeds, full, spent, StepLost, goes, new_peer}
pub use Rattle.bt_machine.specs.Rechoke.{FollowsEach, StepRechoke, rechokes, no_memory as not_rechoked, rechoked, rechoked_peer, choking_sent, is_served}
pub use Rattle.bt_machine.specs.Request.{ignored, no_place, served, HandlesRequest, not_marked, stopped, FindsFault, damaged, fault, IsFile, with_payload, Serves, StopsAtFault, AreMarked}
pub use Rattle.bt_machine.specs.Settling.{judged_file, SettlesIn, due_blocks}
pub use Rattle.bt_machine.specs.Shape.{IsShaped, HasShapeOf, RunsKeepShape}
pub use Rattle.bt_machine.specs.Sound.{RunOn, IsSound, StepKeepsSound, CompleteFilesStand}
pub use Rattle.bt_machine.specs.Spans.{IsRangeOf, spanned_blocks, cut_from}
pub use Rattle.bt_machine.specs.Start.{Starts, by_root, IsTreeFrom, by_layer, IsTorrentTree}
pub use Rattle.bt_machine.specs.Opening.{Begins, bare, with_log, BeginsOn, bare as bare_on, with_log as with_log_on}
pub use Rattle.bt_machine.specs.Recovery.{Recovers}
pub use Rattle.bt_machine.specs.State.{EngineState, PeerState, FileState, mark_of}
pub use Rattle.bt_machine.specs.declared.event.Answer.{Answer}
pub use Rattle.bt_machine.specs.declared.event.Answer.TheVariants.{Stepped, Rechoked, Connected, Flushed}
pub use Rattle.bt_machine.specs.Step.{Step, Run}
pub use Rattle.bt_machine.specs.Stored.{stored_block, HasFile, AreRight}
pub use Rattle.bt_machine.specs.ProofKeys.{HasAnswer, ProofKeysAreAnswered}
pub use Rattle.bt_machine.specs.Unmarks.{IsFoundWrong, StepUnmarksByBytes, RunKeepsMarks}
pub use Rattle.bt_machine.specs.WireEvents.{right, Handles, out_of_range, wrong, HandlesHave, in_range, HandlesBitfield, HandlesMessage, ours, HandlesHello, other, bits_of, bits_in}
pub use Rattle.bt_machine.specs.Writes.{KeepsBytes, AllKeepBytes, IsWriteOfMissing, StepWritesMissing}
pub use Rattle.bt_machine.specs.declared.answer.Frame.{Frame}
pub use Rattle.bt_machine.specs.declared.answer.Frame.TheVariants.{Message as message_frame, Hello as hello_frame}
pub use Rattle.bt_machine.specs.declared.event.Event.{Event}
pub use Rattle.bt_machine.specs.declared.event.Event.TheVariants.{Next, Connect, Rechoke, Feed, Adopt, Lost, Flush, Restart}

-- the digest of some bytes, whichever function it is
abbrev pub Digest : Type 0
Digest = List ℕ → List ℕ
