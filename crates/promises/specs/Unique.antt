-- Uniqueness, of each entry point: what its contract leaves open is nothing. The statements are about the contracts themselves, as the kit reads them
-- (`Post`): of the arguments, the answer, and the arguments at exit. A function of this table has no `requires`. Assumes nothing.
use Rattle.std.specs.Prelude.{◌≡◌, List, ℕ}
use Rattle.std.proofs.Common.{Fits, w64}
use Rattle.model.specs.declared.State.{State}
use Rattle.model.specs.declared.Row.{Row}
use Rattle.step.proofs.step.step.Reads as Step
use Rattle.soundness.proofs.sound.is_sound.Reads as IsSound
use Rattle.fresh.proofs.start.fresh.Reads as Fresh
use Rattle.settle.proofs.query.doing.Reads as DoingQuery
use Rattle.chain.proofs.walk.chain_end.Reads as ChainEnd
use Rattle.chain.proofs.walk.chain_ends.Reads as ChainEnds
use Rattle.chain.proofs.walk.ends_by.Reads as EndsBy
use Rattle.chain.proofs.links.owners.Reads as Owners
use Rattle.chain.proofs.links.wanted.Reads as Wanted
use Rattle.chain.proofs.links.numbers.Reads as Numbers
use Rattle.chain.proofs.links.at_or_nobody.Reads as AtOrNobody
use Rattle.chain.proofs.servers.running_for.Reads as RunningFor
use Rattle.chain.proofs.servers.budgets.Reads as Budgets
use Rattle.events.proofs.event.refusal.Reads as Refusal
use Rattle.meter.proofs.Metered.{Metering, Meets}
use Rattle.meter.proofs.rows.fill.Reads as Fill
use Rattle.meter.proofs.row.row_of.Reads as RowOf
use Rattle.meter.proofs.answer.decided.Reads as Decided
use Rattle.meter.proofs.answer.rows_written.Reads as RowsWritten
use Rattle.bound.proofs.answer.bound.Reads as Bound
use Rattle.bound.proofs.table.table_refusal.Reads as TableRefusal
use Rattle.bound_text.proofs.read.read.Reads as ReadText
use Rattle.bound_text.proofs.read.number.Reads as ReadNumber
use Rattle.bound_text.proofs.fault.table_to.Reads as TableTo
use Rattle.bound_text.proofs.fault.faulty_line.Reads as FaultyLine
use Rattle.trace.proofs.Place.read.Reads as ReadRecord
use Rattle.trace.proofs.kinds.body_length.Reads as BodyLength
use Rattle.trace.proofs.kinds.is_event.Reads as IsEvent
use Rattle.trace.proofs.kinds.event_of.Reads as EventOf
use Rattle.listing.proofs.whole.replay.Reads as Replay
use Rattle.listing.proofs.buffers.buffer.Reads as Buffer
use Rattle.listing.proofs.buffers.file_buffer.Reads as FileBuffer
use Rattle.listing.proofs.buffers.text_buffer.Reads as TextBuffer
use Rattle.listing.proofs.buffers.short_text_buffer.Reads as ShortTextBuffer
use Rattle.image.proofs.reading.read.Reads as ReadImage
use Rattle.image.proofs.writing.write.Reads as WriteImage
use Rattle.image.proofs.tags.phase_tag.Reads as PhaseTag
use Rattle.image.proofs.tags.TaggedFromMode.from.Reads as ModeTagged
use Rattle.image.proofs.tags.ModeFromTagged.from.Reads as ModeOf
use Rattle.image.proofs.tags.TaggedFromOptionU16.from.Reads as NumberTagged
use Rattle.image.proofs.tags.OptionU16FromTagged.from.Reads as NumberOf
use Rattle.vesztamor.proofs.layouts.vesztamor_layout.Reads as ExportLayout
use Rattle.vesztamor.proofs.states.vesztamor_fresh.Reads as ExportFresh
use Rattle.vesztamor.proofs.states.vesztamor_is_sound.Reads as ExportIsSound
use Rattle.vesztamor.proofs.states.vesztamor_executing.Reads as ExportExecuting
use Rattle.vesztamor.proofs.stepping.vesztamor_step.Reads as ExportStep
use Rattle.vesztamor.proofs.bounds.vesztamor_bound.Reads as ExportBound
use Rattle.vesztamor.proofs.replaying.vesztamor_replay.Reads as ExportReplay
use Rattle.vesztamor.proofs.metering.vesztamor_meter.Reads as ExportMeter
use Rattle.model.proofs.blank.unusable_state.Reads as UnusableState
use Rattle.model.proofs.refusals.U16FromRefusal.from.Reads as RefusalNumber
use Rattle.model.proofs.limits.no_entry.Reads as NoEntry
use Rattle.model.proofs.blank.blank_server.Reads as BlankServer
use Rattle.model.proofs.blank.blank_task.Reads as BlankTask
use Rattle.model.proofs.Server.with_phase.Reads as WithPhase
use Rattle.model.proofs.Task.with_mode.Reads as WithMode
use Rattle.model.proofs.Task.with_runs.Reads as WithRuns
use Rattle.model.proofs.Resource.with_owner.Reads as WithOwner
use Rattle.model.proofs.builders.refused.Reads as Refused
use Rattle.model.proofs.Outcome.refused.Reads as RefusedByName
use Rattle.model.proofs.entries.executor_in.Reads as ExecutorIn
use Rattle.model.proofs.entries.in_use.Reads as InUse
use Rattle.model.proofs.entries.in_set.Reads as InSet
use Rattle.model.proofs.Phase.is_idle.Reads as IsIdle
use Rattle.model.proofs.Phase.is_active.Reads as IsActive
use Rattle.model.proofs.Phase.is_running.Reads as IsRunning
use Rattle.model.proofs.Phase.is_recharging.Reads as IsRecharging
use Rattle.model.proofs.Mode.is_suspended.Reads as IsSuspended
use Rattle.model.proofs.Mode.awaited_no.Reads as AwaitedNo
use Rattle.model.proofs.entries.owner_no.Reads as OwnerNo
use Rattle.model.proofs.limits.counts_fit.Reads as CountsFit
use Rattle.model.proofs.limits.quota_fits.Reads as QuotaFits
use Rattle.model.proofs.verdicts.refused_if.Reads as RefusedIf

-- Any two functions from the inputs to the answer and to the arguments at exit that meet the contract agree on every input: in the answer, which
-- has the state where one is returned, and in the lent memory at exit. (κ are the lifetimes of what is lent.)
abbrev pub UniqueLent
    : {L : Type 0} {A R X : L → Type 0} {M : Type 0} (Post : (κ : L) → A κ → R κ → X κ → Type 0) (memory : (κ : L) → X κ → M) → Type 0
UniqueLent {L} {A} {R} {X} {M} Post memory =
    (f g : (κ : L) (a : A κ) → R κ × X κ) →
    ((κ : L) (a : A κ) → Post κ a (f κ a).0 (f κ a).1) →
    ((κ : L) (a : A κ) → Post κ a (g κ a).0 (g κ a).1) →
    (κ : L) (a : A κ) → ((f κ a).0 ≡ (g κ a).0) × (memory κ (f κ a).1 ≡ memory κ (g κ a).1)

-- the same where no memory is lent to be written
abbrev pub Unique : {L : Type 0} {A R X : L → Type 0} (Post : (κ : L) → A κ → R κ → X κ → Type 0) → Type 0
Unique Post = UniqueLent Post (λ κ x. tt {0})

pub record EachUnique : Type 2 where
  -- The layer: one step, the soundness test, the fresh state, what a server is doing, the end of a chain.
  pub step : Unique Step.Post
  pub is_sound : Unique IsSound.Post
  pub fresh : Unique Fresh.Post
  pub doing : Unique DoingQuery.Post
  pub chain_end_lem : Unique ChainEnd.Post
  -- What is taken out of a state, and the first test that refuses an event.
  pub chain_ends : Unique ChainEnds.Post
  pub ends_by : Unique EndsBy.Post
  pub owners : Unique Owners.Post
  pub wanted : Unique Wanted.Post
  pub numbers : Unique Numbers.Post
  pub at_or_nobody_lem : Unique AtOrNobody.Post
  pub running_for_lem : Unique RunningFor.Post
  pub budgets : Unique Budgets.Post
  pub refusal : Unique Refusal.Post
  -- Meter rows: the rows at exit are the second argument. What `fill` ensures is said by the crate in plain words too (`Meets`).
  pub fill : UniqueLent Fill.Post (λ κ x. x.1.0.now)
  pub fill_rows :
      (f g : Metering) → Meets f → Meets g → (st : State) (rows : List Row) → ((f st rows).0 ≡ (g st rows).0) × ((f st rows).1 ≡ (g st rows).1)
  pub row_of : Unique RowOf.Post
  pub decided : Unique Decided.Post
  pub rows_written : Unique RowsWritten.Post
  -- The bound, its table, and its text.
  pub bound : Unique Bound.Post
  pub table_refusal_lem : Unique TableRefusal.Post
  pub read_text_lem : Unique ReadText.Post
  pub read_number : Unique ReadNumber.Post
  pub table_to : Unique TableTo.Post
  pub faulty_line_lem : Unique FaultyLine.Post
  -- Trace and replay: the buffer at exit is the replay's second argument.
  pub read_record : Unique ReadRecord.Post
  pub body_length_lem : Unique BodyLength.Post
  pub is_event_lem : Unique IsEvent.Post
  pub event_of_lem : Unique EventOf.Post
  pub replay : UniqueLent Replay.Post (λ κ x. x.1.0.now)
  pub buffer : (n : ℕ) (small : Fits w64 n) → Unique (Buffer.Post n small)
  pub file_buffer : Unique FileBuffer.Post
  pub text_buffer : Unique TextBuffer.Post
  pub short_text_buffer : Unique ShortTextBuffer.Post
  -- A state in lent bytes.
  pub read_image : Unique ReadImage.Post
  pub write_image : UniqueLent WriteImage.Post (λ κ x. x.1.0.now)
  pub phase_tag : Unique PhaseTag.Post
  pub mode_tagged : Unique ModeTagged.Post
  pub mode_of : Unique ModeOf.Post
  pub number_tagged : Unique NumberTagged.Post
  pub number_of : Unique NumberOf.Post
  -- The static library.
  pub export_layout : Unique ExportLayout.Post
  pub export_fresh : UniqueLent ExportFresh.Post (λ κ x. x.1.0.now)
  pub export_is_sound : Unique ExportIsSound.Post
  pub export_executing : Unique ExportExecuting.Post
  pub export_step : UniqueLent ExportStep.Post (λ κ x. x.0.now)
  pub export_bound : UniqueLent ExportBound.Post (λ κ x. x.1.1.1.0.now)
  pub export_replay : UniqueLent ExportReplay.Post (λ κ x. x.1.0.now)
  pub export_meter : UniqueLent ExportMeter.Post (λ κ x. x.1.0.now)
  -- The model's own entries, tests and numbers, entries that are not in use, and the state of no use.
  pub unusable_state : Unique UnusableState.Post
  pub refusal_number : Unique RefusalNumber.Post
  pub no_entry : Unique NoEntry.Post
  pub blank_server : Unique BlankServer.Post
  pub blank_task : Unique BlankTask.Post
  pub with_phase_lem : Unique WithPhase.Post
  pub with_mode : Unique WithMode.Post
  pub with_runs_lem : Unique WithRuns.Post
  pub with_owner_lem : Unique WithOwner.Post
  pub refused : Unique Refused.Post
  pub refused_by_name : Unique RefusedByName.Post
  pub executor_in_lem : Unique ExecutorIn.Post
  pub in_use : Unique InUse.Post
  pub in_set_lem : Unique InSet.Post
  pub is_idle : Unique IsIdle.Post
  pub is_active : Unique IsActive.Post
  pub is_running : Unique IsRunning.Post
  pub is_recharging : Unique IsRecharging.Post
  pub is_suspended : Unique IsSuspended.Post
  pub awaited_no : Unique AwaitedNo.Post
  pub owner_no_lem : Unique OwnerNo.Post
  pub counts_fit_lem : Unique CountsFit.Post
  pub quota_fits_lem : Unique QuotaFits.Post
  pub refused_if_lem : (e : _) (laws : _) (bounds : _) → Unique (RefusedIf.Post e laws bounds)
