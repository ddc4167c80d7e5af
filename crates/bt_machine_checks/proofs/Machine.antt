-- The names of the machine's definitions that proofs cite, in one place.
use Rattle.bt_machine_checks.proofs.Base.{ℕ, List}
pub use Rattle.bt_machine.specs.Adopting.{StepAdopt, no_file, busy, empty, adopts, no_memory as not_adopted, AdoptsGroups, AdoptsGroup, is_other, AdoptsFile, IsProof, adopted_together}
pub use Rattle.bt_machine_checks.specs.AnswerDue.{IsOnlyPeer, MarksBlock, marked, not_written, NextMarksRightBlock, ServesRange, sent, not_read, NextServesMarkedRange, WaitingIsNotComplete, AnswersHashes, unknown, NextAnswersHashRequest, NextNotesMarkedBlocks, NextSettlesWaitingBlocks}
pub use Rattle.bt_machine_checks.specs.AnswerLaw.{output_of, NotedBy, IsCause, wire, other_torrent, past_last_piece, other_length, no_place as is_no_place, wrong_block, unknown_root as is_unknown_root, no_claim as makes_no_claim, refused as is_refused, IsConnected, StepClosesForCause, BecomesSo, StepAnnouncesWholePieces, NextNotesCompleteFiles}
pub use Rattle.bt_machine.specs.Arrival.{arrives, stale, HandlesPiece, HasPutEffect, Arrives, Puts}
pub use Rattle.bt_machine.specs.Blocks.{with_peer, state_at, tree_of, with_file, with_tree, block_id, Has, file_numbers, IsAsked, new_complete_files, is_whole, piece_numbers, is_complete, has_become, new_whole_pieces, leaf_at, piece_of}
pub use Rattle.bt_machine_checks.specs.LeftFree.{IsOutOfMemory, HaveMemory, plain_answer, without_asked, LacksOneAtMost, other_frames, block_requests, is_block_request, asked_nothing, IsReached, StepIsDetermined, StepIsForced, RunsAreDetermined}
pub use Rattle.bt_machine.specs.Devices.{DeviceCalls, reads_at, calls_at}
pub use Rattle.bt_machine.specs.Flush.{StepFlush, syncs, writes, fails, unwritten, unflushed, syncs_of, data_files, appended, flush_error}
pub use Rattle.bt_machine.specs.LogCalls.{LogCall, EventCalls, hints_read, reload_fault, hint_appended, append_fault, log_flushed, flush_fault}
pub use Rattle.bt_machine.specs.FollowUp.{FollowsUp, rests, requests, interest_sent, RequestsHashes, IsOpen, RequestsEach, NeedsLeaf, IsInteresting, RequestsBlock, AsksBlocks, TellsInterest, IsLeastNeed}
pub use Rattle.bt_machine.specs.HashMessages.{accepts_hashes, unknown_root, refused, HandlesHashes, no_claim, rejected, HandlesHashRequest, answered, new_proofs, ours as resolved, IsTreeOf, IsAnswered, settled_count, Resolves, other as other_asked, AcceptsHashes, OnlyCloses}
pub use Rattle.bt_machine.specs.Law.{sent_by}
pub use Rattle.bt_machine.specs.Next.{keeps_peer, StepNext, closes, waits, faulty, no_peer, no_memory, IsPeer, HasNoPeer, KeepsPeer, TakesEvent, without_peer, with_pending, Closes, ShowsFault}
pub use Rattle.bt_machine.specs.Orderly.{IsOrderly}
pub use Rattle.bt_machine.specs.Output.{Sent, Effect, Output, no_effect, haves, sent_to, noting, closing, sending}
pub use Rattle.bt_machine.specs.Peers.{no_memory as no_room, no_peer as not_fed, StepConnect, joins, StepFeed, feeds, full, spent, StepLost, goes, no_peer as not_lost, new_peer, greeting, our_handshake, IsOurBitfield}
pub use Rattle.bt_machine.specs.Rechoke.{FollowsEach, StepRechoke, rechokes, no_memory as not_rechoked, rechoked, chokes_sent, choking_sent, is_served, Rechokes}
pub use Rattle.bt_machine.specs.Request.{ignored, no_place, served, HandlesRequest, not_marked, stopped, FindsFault, damaged, fault, IsFile, with_payload, Serves, StopsAtFault, AreMarked}
pub use Rattle.bt_machine.specs.Settling.{judged_file, SettlesIn, due_blocks, settling_notes, read_note, Settles}
pub use Rattle.bt_machine.specs.Shape.{IsShaped}
pub use Rattle.bt_machine.specs.Spans.{IsRangeOf, spanned_blocks, cut_from}
pub use Rattle.bt_machine.specs.Start.{Starts, by_root}
pub use Rattle.bt_machine.specs.declared.hash_state.HashState.TheVariants.{Idle, Asked, Refused}
pub use Rattle.bt_machine.specs.State.{EngineState, PeerState, FileState, Hint, mark_of}
pub use Rattle.bt_machine.specs.declared.event.Answer.{Answer}
pub use Rattle.bt_machine.specs.declared.event.Answer.TheVariants.{Stepped, Rechoked, Connected, Fed, Adopted as AdoptedAnswer, Lost as LostAnswer, Flushed, Restarted}
pub use Rattle.bt_machine.specs.Step.{Step, Run}
pub use Rattle.bt_machine.specs.WireEvents.{right, Handles, out_of_range, wrong, HandlesHave, in_range, HandlesBitfield, HandlesMessage, ours, HandlesHello, other, bits_of, bits_in}
pub use Rattle.bt_machine.specs.declared.answer.Frame.{Frame}
pub use Rattle.bt_machine.specs.declared.answer.Frame.TheVariants.{Message as message_frame, Hello as hello_frame}
pub use Rattle.bt_machine.specs.declared.answer.Note.{Note}
pub use Rattle.bt_machine.specs.declared.answer.Note.TheVariants.{Complete, Marked as NowMarked, Device, Freed, Damaged}
pub use Rattle.bt_machine.specs.declared.answer.Why.{Why}
pub use Rattle.bt_machine.specs.declared.answer.Why.TheVariants.{Wire, Proof, BadRequest}
pub use Rattle.bt_machine.specs.declared.error.ConnectError.TheVariants.{OutOfMemory as no_room_to_connect}
pub use Rattle.bt_machine.specs.declared.error.EngineError.{EngineError}
pub use Rattle.bt_machine.specs.declared.event.Event.{Event}
pub use Rattle.bt_machine.specs.declared.event.Event.TheVariants.{Next, Connect, Rechoke, Feed, Adopt, Lost, Flush, Restart}

-- the digest of some bytes, whichever function it is
abbrev pub Digest : Type 0
Digest = List ℕ → List ℕ
