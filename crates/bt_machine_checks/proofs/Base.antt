-- The names of the library and of the crates below that proofs cite, in one place.
pub use Rattle.bt_machine.proofs.Nodes.{value_covers, value_padding, cases_node, value_inside}
pub use Rattle.std.specs.Int.{w32, to_be_bytes}
pub use Rattle.std.specs.List.{range_with_len, AllPairs, concat, list_all, AllZip, count_by}
pub use Rattle.std.specs.Option.{option_and_then, option_map_or}
pub use Rattle.std.specs.Prelude.{slice_get, Contains, slice_set, option_map, ◌==◌, if◌then◌else◌, ◌&&◌, flat_map, filter, ⊤, cond, is_some, All, IsSome}
pub use Rattle.std.specs.Simd.{first_chunks}
pub use Rattle.std.proofs.Common.{[], ◌≡◌, ℕ, List, sym, ap, ◌∙◌, Some, subst, refl, ◌∷◌, inl, inr, length, arith, false, true, ◌++◌, suc, zero, Ok, ◌⊎◌, ◌<◌, ◌+◌, map, ◌≢◌, Bool, None, ◌*◌, ◌≤◌, Result, Err, Option, ◌-◌, get_or, drop, take, ◌/◌, ◌^◌, not, ◌%◌, ◌↔◌, replicate, min, length-drop, append_assoc, rules, alloc_error}
pub use Rattle.std.proofs.Math.Nat.{div-add-mod, mod-lt}
pub use Rattle.std.proofs.Math.Seq.{take-append-add}
pub use Rattle.std.proofs.lemmas.Bool.{cases_lt, eq-eqb}
pub use Rattle.std.proofs.lemmas.List.{length-append, append-nil, length-map, length-take, length-take-le, append_cancel_left, ext_get_or, drop-append-le, take_at, drop_at}
pub use Rattle.std.proofs.lemmas.List.Elements.{Contains-append_cases, Contains-append_left, Contains-append_right, filter-append}
pub use Rattle.std.proofs.lemmas.List.FromFn.{length-range_with_len}
pub use Rattle.std.proofs.lemmas.List.Sums.{sum_by-cons}
pub use Rattle.bt_tree.specs.Blocks.{block_count}
pub use Rattle.bt_tree.specs.NodeHash.{IsDigest}
pub use Rattle.bt_tree.specs.TreeShape.{CoversBlock, real_width, IsPadding}
pub use Rattle.bt_meta.specs.Place.{IsPlace}
pub use Rattle.bt_meta.specs.Torrent.{Metainfo, IsLawful, total_pieces}
pub use Rattle.bt_meta.specs.declared.torrent.Span.{Span}
pub use Rattle.bt_sparse.proofs.NodeMaps.{digest_at_new, same_map, digest_at_cases, digest_at_empty, digest_at_other}
pub use Rattle.bt_sparse.proofs.Single.{claims_one}
pub use Rattle.bt_sparse.specs.Acceptance.{Accepts, IsRefused, IsAcceptable, top_differs, shape, padding, no_anchor, clash, no_memory as refused_memory, DiffersBelow, IsHighestClash, IsJoined}
pub use Rattle.bt_sparse.specs.Anchor.{IsAnchor}
pub use Rattle.bt_sparse.specs.Answer.{IsAnswer, claim_of}
pub use Rattle.bt_sparse.specs.Claim.{Claims, in_run, on_path, uncle, run_digest, HasShape, IsInRun, IsOnPath}
pub use Rattle.bt_sparse.specs.NodeMap.{Nodes, digest_at}
pub use Rattle.bt_sparse.specs.SparseTree.{Facts, value_at, blocks_of, held_at, root_facts}
pub use Rattle.bt_sparse.specs.declared.claim.Claim.{Claim}
pub use Rattle.bt_sparse.specs.declared.claim.ProofError.TheVariants.{OutOfMemory, Clash}
pub use Rattle.bt_hashreq.specs.Claim.{IsClaimBy, IsNoClaim, shape as no_shape, count as no_count, no_memory as claim_memory, digests_in}
pub use Rattle.bt_hashreq.specs.Key.{IsKey, key_spelling}
pub use Rattle.bt_hashreq.specs.Request.{IsPlan, planned_key}
pub use Rattle.bt_hashreq.specs.declared.key.HashKey.{HashKey}
pub use Rattle.bt_wire.proofs.Events.{same_event, event_frame}
pub use Rattle.bt_wire.proofs.Faults.{fault_alone, one_fault}
pub use Rattle.bt_wire.specs.Cutter.{Stream, stream, Takes, Waits, fed, Fails}
pub use Rattle.bt_wire.specs.Event.{HasNoEvent, ShowsNoFault}
pub use Rattle.bt_wire.specs.Handshake.{handshake_spelling}
pub use Rattle.bt_wire.specs.Message.{message_spelling, Fits, IsMessage, Body, frame_spelling}
pub use Rattle.bt_wire.specs.declared.event.WireError.TheVariants.{TooLong, BadLength}
pub use Rattle.bt_wire.specs.declared.event.WireEvent.{WireEvent}
pub use Rattle.bt_wire.specs.declared.event.WireEvent.TheVariants.{Message, Hello, Skipped}
pub use Rattle.bt_wire.specs.declared.message.Ask.{Ask}
pub use Rattle.bt_wire.specs.declared.message.Message.{Message as PeerMessage}
pub use Rattle.bt_wire.specs.declared.message.Message.TheVariants.{Request, Piece, Interested, Have, NotInterested, Bitfield, HashRequest, Unchoke, Hashes, HashReject, KeepAlive, Choke, Cancel}
pub use Rattle.bt_disk.specs.Calls.{bytes_written, Call, write_fault, bytes_given, sync_made, sync_fault}
pub use Rattle.bt_store.specs.Adoption.{none, known, accepted, refused as not_accepted, short, unread, Adopts, IsUnknownGroup, claim_of_reads, IsKnownGroup, marked_group}
pub use Rattle.bt_store.specs.Arrival.{states_after_put, PutIsDue, calls_of_put, IsWrong}
pub use Rattle.bt_store.specs.BlockReads.{BlockRead, given, IsRight, failed, block_of, call_of, is_right, judged, fault_count, is_fault, right_count}
pub use Rattle.bt_store.specs.BlockStates.{is_marked}
pub use Rattle.bt_store.specs.Review.{is_waiting_at}
pub use Rattle.bt_store.specs.declared.adoption.Adopted.{Adopted}
pub use Rattle.bt_store.specs.declared.arrival.Put.{Put}
pub use Rattle.bt_store.specs.declared.arrival.Put.TheVariants.{Marked as PutMarked, Wrong, Waiting as PutWaiting, Already}
pub use Rattle.bt_store.specs.declared.block_states.BlockState.{BlockState}
pub use Rattle.bt_store.specs.declared.block_states.BlockState.TheVariants.{Missing, Marked, Waiting}
pub use Rattle.bt_store.specs.declared.error.StoreError.{StoreError}
pub use Rattle.bt_store.specs.declared.error.StoreError.TheVariants.{Range, Device as DeviceFault}
pub use Rattle.bt_book.proofs.Ranks.{same_peer}
pub use Rattle.bt_book.specs.Blocks.{is_block}
pub use Rattle.bt_book.specs.Book.{without_block}
pub use Rattle.bt_book.specs.declared.names.BlockId.{BlockId}
pub use Rattle.bt_book.specs.declared.names.PeerKey.{PeerKey}
