-- A name whose `unfolding` line opens every definition of the protocol, for proofs by computation.
use Rattle.std.proofs.Common.{ℕ}

unfoldable pub the_model : ℕ
unfolding Rattle.crsm_base.specs.MessageReading.bool_at Rattle.crsm_base.specs.MessageReading.option_stamp_at Rattle.crsm_base.specs.MessageReading.vote_at Rattle.crsm_base.specs.MessageReading.option_vote_at Rattle.crsm_base.specs.MessageReading.suspend_at Rattle.crsm_base.specs.MessageReading.suspend_ok_at
    Rattle.crsm_base.specs.MessageReading.p1a_at Rattle.crsm_base.specs.MessageReading.p1b_at Rattle.crsm_base.specs.MessageReading.p1no_at Rattle.crsm_base.specs.MessageReading.p2a_at Rattle.crsm_base.specs.MessageReading.p2b_at Rattle.crsm_base.specs.MessageReading.decide_at
    Rattle.crsm_base.specs.MessageReading.retrieve_at Rattle.crsm_base.specs.MessageReading.page_at Rattle.crsm_base.specs.MessageReading.control_at Rattle.crsm_base.specs.MessageReading.prepare_at Rattle.crsm_base.specs.MessageReading.prepare_ok_at Rattle.crsm_base.specs.MessageReading.clock_time_at
    Rattle.crsm_base.specs.MessageReading.payload_at Rattle.crsm_base.specs.MessageReading.part_fields_at Rattle.crsm_base.specs.MessageReading.part_at Rattle.crsm_base.specs.MessageReading.frame_at Rattle.crsm_base.specs.MessageReading.ack_at Rattle.crsm_base.specs.MessageReading.request_at
    Rattle.crsm_base.specs.MessageReading.reply_at Rattle.crsm_base.specs.MessageReading.operate_at Rattle.crsm_base.specs.MessageReading.datagram_at Rattle.crsm_base.specs.MessageReading.control_of Rattle.crsm_base.specs.MessageReading.datagram_of Rattle.crsm_base.specs.Messages.control_bytes
    Rattle.crsm_base.specs.Messages.payload_bytes Rattle.crsm_base.specs.Messages.datagram_bytes Rattle.crsm_base.specs.Order.stamp_lt Rattle.crsm_base.specs.Order.stamp_eq Rattle.crsm_base.specs.Order.ballot_lt Rattle.crsm_base.specs.Order.ballot_eq
    Rattle.crsm_base.specs.Order.entry_lt Rattle.crsm_base.specs.Parser.end_at Rattle.crsm_base.specs.Parser.u8_at Rattle.crsm_base.specs.Reading.u16_at Rattle.crsm_base.specs.Reading.u32_at Rattle.crsm_base.specs.Reading.u64_at
    Rattle.crsm_base.specs.Reading.replica_at Rattle.crsm_base.specs.Reading.run_at Rattle.crsm_base.specs.Reading.stamp_at Rattle.crsm_base.specs.Reading.ballot_at Rattle.crsm_base.specs.Reading.key_at Rattle.crsm_base.specs.Reading.val_at
    Rattle.crsm_base.specs.Reading.option_val_at Rattle.crsm_base.specs.Reading.get_at Rattle.crsm_base.specs.Reading.put_at Rattle.crsm_base.specs.Reading.delete_at Rattle.crsm_base.specs.Reading.cas_at Rattle.crsm_base.specs.Reading.op_at
    Rattle.crsm_base.specs.Reading.command_at Rattle.crsm_base.specs.Reading.entry_at Rattle.crsm_base.specs.Reading.is_rising Rattle.crsm_base.specs.Reading.many_entries_at Rattle.crsm_base.specs.Reading.entries_at Rattle.crsm_base.specs.Reading.is_members
    Rattle.crsm_base.specs.Reading.members_at Rattle.crsm_base.specs.Reading.spec_size_at Rattle.crsm_base.specs.Reading.spec_at Rattle.crsm_base.specs.Reading.spec_members_at Rattle.crsm_base.specs.Reading.bare_decision_at Rattle.crsm_base.specs.Reading.decision_at
    Rattle.crsm_base.specs.Reading.found_at Rattle.crsm_base.specs.Reading.differs_at Rattle.crsm_base.specs.Reading.stale_at Rattle.crsm_base.specs.Reading.answer_at Rattle.crsm_base.specs.Reading.answered_at Rattle.crsm_base.specs.Reading.outcome_at
    Rattle.crsm_base.specs.RecordReading.boot_at Rattle.crsm_base.specs.RecordReading.prepare_rec_at Rattle.crsm_base.specs.RecordReading.commit_at Rattle.crsm_base.specs.RecordReading.adopt_at Rattle.crsm_base.specs.RecordReading.suspend_rec_at Rattle.crsm_base.specs.RecordReading.promise_at
    Rattle.crsm_base.specs.RecordReading.accept_at Rattle.crsm_base.specs.RecordReading.decide_rec_at Rattle.crsm_base.specs.RecordReading.enter_at Rattle.crsm_base.specs.RecordReading.rec_at Rattle.crsm_base.specs.Records.rec_bytes Rattle.crsm_base.specs.Records.body_bytes
    Rattle.crsm_base.specs.Replicas.numbers_below Rattle.crsm_base.specs.Replicas.has Rattle.crsm_base.specs.Replicas.can_be_members Rattle.crsm_base.specs.Spelling.u16_bytes Rattle.crsm_base.specs.Spelling.u32_bytes Rattle.crsm_base.specs.Spelling.u64_bytes
    Rattle.crsm_base.specs.Spelling.stamp_bytes Rattle.crsm_base.specs.Spelling.ballot_bytes Rattle.crsm_base.specs.Spelling.key_bytes Rattle.crsm_base.specs.Spelling.val_bytes Rattle.crsm_base.specs.Spelling.op_bytes Rattle.crsm_base.specs.Spelling.command_bytes
    Rattle.crsm_base.specs.Spelling.entry_bytes Rattle.crsm_base.specs.Spelling.entries_bytes Rattle.crsm_base.specs.Spelling.members_bytes Rattle.crsm_base.specs.Spelling.spec_bytes Rattle.crsm_base.specs.Spelling.decision_bytes Rattle.crsm_base.specs.Spelling.answer_bytes
    Rattle.crsm_base.specs.Spelling.outcome_bytes Rattle.crsm_base.specs.Store.no_rows Rattle.crsm_base.specs.Store.bytes_lt Rattle.crsm_base.specs.Store.value_at Rattle.crsm_base.specs.Store.with_key Rattle.crsm_base.specs.Store.without_key
    Rattle.crsm_base.specs.Store.put_key Rattle.crsm_base.specs.Store.change_key Rattle.crsm_base.specs.Store.found Rattle.crsm_base.specs.Store.operate Rattle.crsm_base.specs.Store.client_row Rattle.crsm_base.specs.Store.with_client
    Rattle.crsm_base.specs.Store.done Rattle.crsm_base.specs.Store.serve Rattle.crsm_base.specs.Store.apply Rattle.crsm_base.specs.Store.after Rattle.crsm_base.specs.Store.answer_after Rattle.crsm_spec.specs.Calm.calm_round
    Rattle.crsm_spec.specs.Choice.when◌then◌otherwise◌ Rattle.crsm_spec.specs.Clients.own_unexecuted Rattle.crsm_spec.specs.Clients.refusal Rattle.crsm_spec.specs.Clients.refuse Rattle.crsm_spec.specs.Clients.await Rattle.crsm_spec.specs.Clients.submit
    Rattle.crsm_spec.specs.Clients.submit_at Rattle.crsm_spec.specs.Clients.take_or_refuse Rattle.crsm_spec.specs.Clients.on_request Rattle.crsm_spec.specs.Clients.commit_run Rattle.crsm_spec.specs.Clients.commits Rattle.crsm_spec.specs.Clients.find_executed
    Rattle.crsm_spec.specs.Clients.reply_ok Rattle.crsm_spec.specs.Clients.reply_dropped Rattle.crsm_spec.specs.Clients.is_dropped Rattle.crsm_spec.specs.Clients.answer_found Rattle.crsm_spec.specs.Clients.answer_each Rattle.crsm_spec.specs.Clients.replies
    Rattle.crsm_spec.specs.Clock.issue Rattle.crsm_spec.specs.Collect.frozen Rattle.crsm_spec.specs.Collect.run_within Rattle.crsm_spec.specs.Collect.first_page Rattle.crsm_spec.specs.Collect.asked_of Rattle.crsm_spec.specs.Collect.suspend_ok
    Rattle.crsm_spec.specs.Collect.own_page Rattle.crsm_spec.specs.Collect.pages_of Rattle.crsm_spec.specs.Collect.is_whole Rattle.crsm_spec.specs.Collect.cursor Rattle.crsm_spec.specs.Collect.whole_ones Rattle.crsm_spec.specs.Collect.all_entries
    Rattle.crsm_spec.specs.Collect.first_pages Rattle.crsm_spec.specs.Collect.base_of Rattle.crsm_spec.specs.Collect.floor_of Rattle.crsm_spec.specs.Collect.with_new Rattle.crsm_spec.specs.Collect.union Rattle.crsm_spec.specs.Collect.collected
    Rattle.crsm_spec.specs.Collect.size_of Rattle.crsm_spec.specs.Collect.is_within Rattle.crsm_spec.specs.Controls.on_suspend Rattle.crsm_spec.specs.Controls.are_above Rattle.crsm_spec.specs.Controls.is_page_of Rattle.crsm_spec.specs.Controls.take_page
    Rattle.crsm_spec.specs.Controls.on_suspend_ok Rattle.crsm_spec.specs.Controls.if_next Rattle.crsm_spec.specs.Controls.send_promise Rattle.crsm_spec.specs.Controls.on_p1a Rattle.crsm_spec.specs.Controls.on_p1b Rattle.crsm_spec.specs.Controls.on_p1no
    Rattle.crsm_spec.specs.Controls.on_p2a Rattle.crsm_spec.specs.Controls.on_p2b Rattle.crsm_spec.specs.Controls.retrieve_base Rattle.crsm_spec.specs.Controls.on_decide Rattle.crsm_spec.specs.Controls.page_from Rattle.crsm_spec.specs.Controls.on_retrieve
    Rattle.crsm_spec.specs.Controls.new_entries Rattle.crsm_spec.specs.Controls.may_adopt Rattle.crsm_spec.specs.Controls.on_page Rattle.crsm_spec.specs.Controls.if_spec Rattle.crsm_spec.specs.Controls.on_control Rattle.crsm_spec.specs.Coordinate.forget_epoch
    Rattle.crsm_spec.specs.Coordinate.adopt_tail Rattle.crsm_spec.specs.Coordinate.enter Rattle.crsm_spec.specs.Coordinate.advance Rattle.crsm_spec.specs.Coordinate.learn Rattle.crsm_spec.specs.Coordinate.both_specs Rattle.crsm_spec.specs.Coordinate.on_chosen
    Rattle.crsm_spec.specs.Coordinate.instance Rattle.crsm_spec.specs.Coordinate.count_acceptor Rattle.crsm_spec.specs.Coordinate.has_accepted Rattle.crsm_spec.specs.Coordinate.accept_own Rattle.crsm_spec.specs.Coordinate.send_proposal Rattle.crsm_spec.specs.Coordinate.propose
    Rattle.crsm_spec.specs.Coordinate.count_answer Rattle.crsm_spec.specs.Coordinate.send_ask Rattle.crsm_spec.specs.Coordinate.ask Rattle.crsm_spec.specs.Coordinate.greater_ballot Rattle.crsm_spec.specs.Coordinate.begin_proposing Rattle.crsm_spec.specs.Coordinate.on_complete
    Rattle.crsm_spec.specs.Coordinate.on_whole Rattle.crsm_spec.specs.Coordinate.suspend_once Rattle.crsm_spec.specs.Coordinate.may_reconfigure Rattle.crsm_spec.specs.Coordinate.collect Rattle.crsm_spec.specs.Coordinate.on_suspect Rattle.crsm_spec.specs.Decided.decisions
    Rattle.crsm_spec.specs.Decided.decisions_in Rattle.crsm_spec.specs.Decided.decision_of Rattle.crsm_spec.specs.Decided.spec_at Rattle.crsm_spec.specs.Decided.all_decisions Rattle.crsm_spec.specs.Decided.start_of Rattle.crsm_spec.specs.Draft.begun
    Rattle.crsm_spec.specs.Draft.keep Rattle.crsm_spec.specs.Draft.send Rattle.crsm_spec.specs.Draft.reply Rattle.crsm_spec.specs.Draft.count_vote Rattle.crsm_spec.specs.Draft.noting Rattle.crsm_spec.specs.Draft.would
    Rattle.crsm_spec.specs.Draft.issued_at Rattle.crsm_spec.specs.Draft.next_frame Rattle.crsm_spec.specs.Draft.push_to Rattle.crsm_spec.specs.Draft.push_to_members Rattle.crsm_spec.specs.Draft.parts_to Rattle.crsm_spec.specs.Draft.send_control
    Rattle.crsm_spec.specs.Draft.send_to_each Rattle.crsm_spec.specs.Draft.send_to_all Rattle.crsm_spec.specs.Draft.send_decision Rattle.crsm_spec.specs.Draft.retrieve Rattle.crsm_spec.specs.Draft.send_retrieve Rattle.crsm_spec.specs.Fits.booted
    Rattle.crsm_spec.specs.Fits.is_newest Rattle.crsm_spec.specs.Fits.goes_on Rattle.crsm_spec.specs.Fits.fits Rattle.crsm_spec.specs.Frames.is_astray Rattle.crsm_spec.specs.Frames.time_of Rattle.crsm_spec.specs.Frames.is_wrong
    Rattle.crsm_spec.specs.Frames.is_odd_frame Rattle.crsm_spec.specs.Frames.with_stamp Rattle.crsm_spec.specs.Frames.owe Rattle.crsm_spec.specs.Frames.ack Rattle.crsm_spec.specs.Frames.receive Rattle.crsm_spec.specs.Frames.take_frame
    Rattle.crsm_spec.specs.Frames.on_frame Rattle.crsm_spec.specs.Frames.on_ack Rattle.crsm_spec.specs.Frames.pay Rattle.crsm_spec.specs.Frames.owing Rattle.crsm_spec.specs.Frames.pay_run Rattle.crsm_spec.specs.Frames.owed_oks
    Rattle.crsm_spec.specs.Frames.is_idle Rattle.crsm_spec.specs.Frames.send_time Rattle.crsm_spec.specs.Frames.idle Rattle.crsm_spec.specs.Frames.again_frame Rattle.crsm_spec.specs.Frames.again_to Rattle.crsm_spec.specs.Frames.send_again
    Rattle.crsm_spec.specs.Lines.exec_line Rattle.crsm_spec.specs.Lines.exec_lines Rattle.crsm_spec.specs.Lines.lines_of Rattle.crsm_spec.specs.Link.taken_from Rattle.crsm_spec.specs.Link.taken Rattle.crsm_spec.specs.Lists.last_of
    Rattle.crsm_spec.specs.Lists.first_of Rattle.crsm_spec.specs.Lists.greatest Rattle.crsm_spec.specs.Log.decision Rattle.crsm_spec.specs.Log.known Rattle.crsm_spec.specs.Log.start Rattle.crsm_spec.specs.Log.members
    Rattle.crsm_spec.specs.Log.spec Rattle.crsm_spec.specs.Log.with_entry Rattle.crsm_spec.specs.Log.logged_in Rattle.crsm_spec.specs.Log.logged Rattle.crsm_spec.specs.Log.entry_of Rattle.crsm_spec.specs.Log.executed
    Rattle.crsm_spec.specs.Log.last_stamp Rattle.crsm_spec.specs.Log.above Rattle.crsm_spec.specs.Log.unexecuted Rattle.crsm_spec.specs.Log.is_boot Rattle.crsm_spec.specs.Log.boots Rattle.crsm_spec.specs.Log.is_enter
    Rattle.crsm_spec.specs.Log.has_entered Rattle.crsm_spec.specs.Log.live Rattle.crsm_spec.specs.Log.suspended Rattle.crsm_spec.specs.Log.active Rattle.crsm_spec.specs.Log.no_ballot Rattle.crsm_spec.specs.Log.promised
    Rattle.crsm_spec.specs.Log.accepted Rattle.crsm_spec.specs.Moments.use_up Rattle.crsm_spec.specs.Moments.silent Rattle.crsm_spec.specs.Moments.begun_at Rattle.crsm_spec.specs.Moments.step_at_site Rattle.crsm_spec.specs.Moments.step_at
    Rattle.crsm_spec.specs.Moments.come Rattle.crsm_spec.specs.Moments.junk_at Rattle.crsm_spec.specs.Moments.single Rattle.crsm_spec.specs.Moments.deliverable Rattle.crsm_spec.specs.Moments.go_each Rattle.crsm_spec.specs.Moments.go_all
    Rattle.crsm_spec.specs.Moments.lose_batch Rattle.crsm_spec.specs.Moments.is_kept Rattle.crsm_spec.specs.Moments.cut_at Rattle.crsm_spec.specs.Moments.with_room Rattle.crsm_spec.specs.Moments.start_at Rattle.crsm_spec.specs.Moments.moments_of
    Rattle.crsm_spec.specs.Moments.world_after Rattle.crsm_spec.specs.Moments.lines_of Rattle.crsm_spec.specs.Moments.act Rattle.crsm_spec.specs.Node.input_of Rattle.crsm_spec.specs.Node.turn Rattle.crsm_spec.specs.Node.outputs_from
    Rattle.crsm_spec.specs.Node.outputs Rattle.crsm_spec.specs.Parts.part_count Rattle.crsm_spec.specs.Parts.cut_into Rattle.crsm_spec.specs.Parts.cut Rattle.crsm_spec.specs.Parts.is_older Rattle.crsm_spec.specs.Parts.is_same_message
    Rattle.crsm_spec.specs.Parts.kept_of Rattle.crsm_spec.specs.Parts.has_index Rattle.crsm_spec.specs.Parts.is_complete Rattle.crsm_spec.specs.Parts.is_old Rattle.crsm_spec.specs.Parts.is_odd Rattle.crsm_spec.specs.Parts.joined
    Rattle.crsm_spec.specs.Parts.with_part Rattle.crsm_spec.specs.Parts.whole_with Rattle.crsm_spec.specs.Possible.first_bad Rattle.crsm_spec.specs.Possible.is_none_of Rattle.crsm_spec.specs.Possible.is_next_new Rattle.crsm_spec.specs.Possible.is_down_at
    Rattle.crsm_spec.specs.Possible.is_not_sent Rattle.crsm_spec.specs.Possible.is_receiver_down Rattle.crsm_spec.specs.Possible.is_used Rattle.crsm_spec.specs.Possible.are_too_few Rattle.crsm_spec.specs.Possible.receivers Rattle.crsm_spec.specs.Possible.are_mixed
    Rattle.crsm_spec.specs.Possible.causes_at Rattle.crsm_spec.specs.Possible.causes_of_single Rattle.crsm_spec.specs.Possible.causes_of_batch Rattle.crsm_spec.specs.Possible.causes_of Rattle.crsm_spec.specs.Possible.possible Rattle.crsm_spec.specs.Quorum.spec_decided
    Rattle.crsm_spec.specs.Quorum.has_majority Rattle.crsm_spec.specs.Ready.reached Rattle.crsm_spec.specs.Ready.voted Rattle.crsm_spec.specs.Ready.votes_for Rattle.crsm_spec.specs.Ready.is_replicated Rattle.crsm_spec.specs.Ready.is_stable
    Rattle.crsm_spec.specs.Ready.is_next Rattle.crsm_spec.specs.Ready.all_received Rattle.crsm_spec.specs.Ready.is_ready Rattle.crsm_spec.specs.Replica.fresh Rattle.crsm_spec.specs.Replica.members_of Rattle.crsm_spec.specs.Replica.spec_of
    Rattle.crsm_spec.specs.Replica.next_spec Rattle.crsm_spec.specs.Replica.named_spec Rattle.crsm_spec.specs.Replica.other_members Rattle.crsm_spec.specs.Replica.others Rattle.crsm_spec.specs.Replica.last_issued Rattle.crsm_spec.specs.Replica.latest_from
    Rattle.crsm_spec.specs.Replica.frames_to Rattle.crsm_spec.specs.Replica.acked_by Rattle.crsm_spec.specs.Replica.unacked Rattle.crsm_spec.specs.Replica.next_from Rattle.crsm_spec.specs.Replica.is_congested Rattle.crsm_spec.specs.Run.after_acts
    Rattle.crsm_spec.specs.Run.moments Rattle.crsm_spec.specs.Run.moments_of_run Rattle.crsm_spec.specs.Run.last_world Rattle.crsm_spec.specs.Run.traced Rattle.crsm_spec.specs.Run.told Rattle.crsm_spec.specs.Run.seen
    Rattle.crsm_spec.specs.Run.all_worlds Rattle.crsm_spec.specs.Run.all_lists Rattle.crsm_spec.specs.Run.longest Rattle.crsm_spec.specs.Run.the_list Rattle.crsm_spec.specs.Safe.command_of_single Rattle.crsm_spec.specs.Safe.command_of
    Rattle.crsm_spec.specs.Step.if_fitting Rattle.crsm_spec.specs.Step.on_whole_message Rattle.crsm_spec.specs.Step.on_part Rattle.crsm_spec.specs.Step.ask_page Rattle.crsm_spec.specs.Step.missing Rattle.crsm_spec.specs.Step.send_collect
    Rattle.crsm_spec.specs.Step.renew Rattle.crsm_spec.specs.Step.ask_all Rattle.crsm_spec.specs.Step.on_tick Rattle.crsm_spec.specs.Step.on_datagram Rattle.crsm_spec.specs.Step.on_input Rattle.crsm_spec.specs.Step.idle_at
    Rattle.crsm_spec.specs.Step.step Rattle.crsm_spec.specs.Step.boot_again Rattle.crsm_spec.specs.Step.founding_boot Rattle.crsm_spec.specs.Step.first_boot Rattle.crsm_spec.specs.Step.boot Rattle.crsm_spec.specs.World.log_of
    Rattle.crsm_spec.specs.World.is_up Rattle.crsm_spec.specs.World.log_at Rattle.crsm_spec.specs.World.is_up_at Rattle.crsm_spec.specs.World.with_site Rattle.crsm_spec.specs.World.body_size Rattle.crsm_spec.specs.World.packets_size
    Rattle.crsm_spec.specs.World.is_full Rattle.crsm_spec.specs.World.kind_of Rattle.crsm_spec.specs.World.send_line Rattle.crsm_spec.specs.World.send_lines Rattle.crsm_spec.specs.World.packet_of Rattle.crsm_spec.specs.World.after_step
    Rattle.crsm_spec.specs.World.whole_step Rattle.crsm_spec.specs.World.then_down Rattle.crsm_spec.specs.World.cut_step Rattle.crsm_spec.specs.World.down Rattle.crsm_spec.specs.World.lost_step Rattle.crsm_spec.specs.World.begin
    Rattle.crsm_spec.specs.World.first_lines Rattle.crsm_spec.specs.World.state_of Rattle.crsm_spec.specs.World.final_line Rattle.crsm_spec.specs.World.finals
the_model = 0
