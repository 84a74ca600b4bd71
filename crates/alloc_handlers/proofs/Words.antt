-- The names that most proofs of this crate cite, passed on from one place. Declares nothing.
pub use Rattle.alloc_exchange.specs.Exchange.{Accepted, after, answer}
pub use Rattle.alloc_handlers.specs.Puts.{PutsGoOn}
pub use Rattle.alloc_handlers.specs.Stands.{GoesTo, IsInStep, IsReady, SeesTo, StandsFor}
pub use Rattle.alloc_handlers.specs.Strangers.{is_stranger}
pub use Rattle.alloc_handlers.specs.declared.member.Member.{Member}
pub use Rattle.alloc_spec.specs.AllocatorState.{AllocatorState, is_known, is_recorded, is_taken, is_zero, known, knows_all, may_propose, members_of, recorded_at, start_of}
pub use Rattle.alloc_spec.specs.Delivered.{StepResult, asks_info, bad, by_kind, hears_discovery, hears_status, reads, took}
pub use Rattle.alloc_spec.specs.Ending.{append_call_bytes, call_phase, calls_all, calls_by, calls_owed, calls_peer, commit_phase, end_phase, has_to_tell, tell_phase, vote_call_bytes}
pub use Rattle.alloc_spec.specs.Exchange.{allocation_payload, answers_or_records, answers_request, gives_entry, hears_allocation, may_follow, records_at, with_request}
pub use Rattle.alloc_spec.specs.Outbox.{Waiting, counted_if, queued_if}
pub use Rattle.alloc_spec.specs.Services.{answers_append_request, answers_call, answers_vote_request, append_answered, ends_append_call, ends_vote_call, hears_info, is_listed, vote_answered}
pub use Rattle.alloc_spec.specs.Step.{at_moment, at_sessions, begin_phase, with_answer}
pub use Rattle.alloc_spec.specs.StepState.{StepState, pair_list, pair_of_offer, pairs_if_fitted, with_moves, with_response, with_response_to, with_transfer}
pub use Rattle.alloc_spec.specs.Tick.{asks, candidate, clock_phase, discovery_phase, election_phase, is_candidate, proposes, query_phase, record_phase, records_as, records_node, status_phase, with_discovery, with_status}
pub use Rattle.alloc_spec.specs.Transfers.{Ids, Offer, has_room, id_of, outgoing, pair_in, pair_of_allocation, sent_of}
pub use Rattle.alloc_spec.specs.declared.offered.Offered.{Offered}
pub use Rattle.can_frame.specs.Log.{HasNodeId, IsWellFormed, blank}
pub use Rattle.can_frame.specs.declared.entry.Entry.{Entry}
pub use Rattle.can_frame.specs.declared.step.Seen.TheVariants.{Dropped, Part, Took}
pub use Rattle.can_frame.specs.declared.step.What.TheVariants.{Alloc, App, AppQ, Disc, Info, InfoQ, Stat, Vote, VoteQ}
pub use Rattle.cluster_discovery.specs.Members.{Event, Heard, is_on_list, members}
pub use Rattle.cluster_discovery.specs.Views.{member_list}
pub use Rattle.disk_model.specs.declared.disk.Disk.{Ghosts}
pub use Rattle.kv_store.specs.declared.fault.Fault.{Fault}
pub use Rattle.node_discovery.specs.History.{Asked, is_nameless, is_online, may_be_asked, unique_id}
pub use Rattle.node_discovery.specs.Watch.{Watched, after_info, after_status, history, is_due, next_query, of_node}
pub use Rattle.raft_core.specs.Handled.{MakesMoves, append_request_of, counted_at, moves_of_expire, moves_of_tick, puts_with_origins, vote_request_of, with_blank}
pub use Rattle.raft_core.specs.RaftViews.{raft_me, raft_role, raft_size, raft_told}
pub use Rattle.raft_core.specs.StoredPuts.{CallFaultIsSticky, CallWrites, PutWithOrigin}
pub use Rattle.raft_core.specs.Times.{HandedIn, Sending, Times, awaits, given_at, given_call, given_proposal, given_tick, is_awaited, overdue, times_after_all}
pub use Rattle.raft_core.specs.declared.raft.Raft.{Raft}
pub use Rattle.raft_log.specs.DurableViews.{durable_state}
pub use Rattle.raft_log.specs.declared.durable.Durable.{Durable}
pub use Rattle.raft_model.specs.Decisions.{grants, verdict_on}
pub use Rattle.raft_model.specs.Handlers.{server_after, server_after_all}
pub use Rattle.raft_model.specs.Messages.{Message, Request}
pub use Rattle.raft_model.specs.Messages.Message.{Answers, Requests}
pub use Rattle.raft_model.specs.Moves.{Move, next_entry}
pub use Rattle.raft_model.specs.Moves.Elections.{is_leader, with_term}
pub use Rattle.raft_model.specs.Moves.Leading.{answer_to, append_request, vote_request}
pub use Rattle.raft_model.specs.Moves.Move.{AnswerAgain, CallForVote, CallToAppend, GiveUp, ProposeEntry, TakeAppendRequest, TakeVoteRequest, TellNothing, TellPair}
pub use Rattle.raft_model.specs.Server.{RaftServer, Store}
pub use Rattle.std.proofs.lemmas.Bool.{cases_eq, cases_lt}
pub use Rattle.std.proofs.lemmas.Bool.Decides.{nat_tests}
pub use Rattle.std.proofs.lemmas.List.{get_or-replicate, map-append, nil_from_length}
pub use Rattle.std.proofs.lemmas.List.FromFn.{fill_by_all, get_or-map-range_with_len}
pub use Rattle.std.specs.List.{list_any, range_with_len}
pub use Rattle.std.specs.Result.{result_err}
pub use Rattle.transfer_rx.specs.Heard.{told_with}
pub use Rattle.transfer_rx.specs.Told.{delivery_of}
