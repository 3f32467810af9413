-- Uniqueness of each entry point: each contract equates the answer, and the memory at exit, with a definition; where it does so for the number of a
-- refusal, no two refusals have one number. Assumes nothing.
use mathlib.Core.Path.{◌≡◌, refl, sym, ◌∙◌}
use Rattle.model.specs.declared.FreshOutcome.{FreshOutcome}
use Rattle.model.proofs.Refused.{numbered_one}
use Rattle.promises.specs.Unique.{EachUnique}

-- an outcome of fresh by its parts
one_start : (x y : FreshOutcome) → x.answer ≡ y.answer → x.state ≡ y.state → x ≡ y
one_start x y answer state i = record { answer = answer i; state = state i }

pub each_unique : EachUnique
each_unique = record {
  step = λ f g p q κ a. ((p κ a).0 ∙ sym (q κ a).0, refl);
  is_sound = λ f g p q κ a. (p κ a ∙ sym (q κ a), refl);
  fresh = λ f g p q κ a. (one_start _ _ (numbered_one _ _ ((p κ a).0 ∙ sym (q κ a).0)) ((p κ a).1.0 ∙ sym (q κ a).1.0), refl);
  doing = λ f g p q κ a. ((p κ a).0 ∙ sym (q κ a).0, refl);
  chain_end_lem = λ f g p q κ a. (p κ a ∙ sym (q κ a), refl);
  chain_ends = λ f g p q κ a. (p κ a ∙ sym (q κ a), refl);
  ends_by = λ f g p q κ a. (p κ a ∙ sym (q κ a), refl);
  owners = λ f g p q κ a. (p κ a ∙ sym (q κ a), refl);
  wanted = λ f g p q κ a. (p κ a ∙ sym (q κ a), refl);
  numbers = λ f g p q κ a. (p κ a ∙ sym (q κ a), refl);
  at_or_nobody_lem = λ f g p q κ a. (p κ a ∙ sym (q κ a), refl);
  running_for_lem = λ f g p q κ a. (p κ a ∙ sym (q κ a), refl);
  budgets = λ f g p q κ a. (p κ a ∙ sym (q κ a), refl);
  refusal = λ f g p q κ a. (numbered_one _ _ (p κ a ∙ sym (q κ a)), refl);
  fill = λ f g p q κ a. ((p κ a).0 ∙ sym (q κ a).0, (p κ a).1.0 ∙ sym (q κ a).1.0);
  fill_rows = λ f g p q st rows. ((p st rows).0 ∙ sym (q st rows).0, (p st rows).1 ∙ sym (q st rows).1);
  row_of = λ f g p q κ a. (p κ a ∙ sym (q κ a), refl);
  decided = λ f g p q κ a. (p κ a ∙ sym (q κ a), refl);
  rows_written = λ f g p q κ a. (p κ a ∙ sym (q κ a), refl);
  bound = λ f g p q κ a. (numbered_one _ _ (p κ a ∙ sym (q κ a)), refl);
  table_refusal_lem = λ f g p q κ a. (numbered_one _ _ (p κ a ∙ sym (q κ a)), refl);
  read_text_lem = λ f g p q κ a. (p κ a ∙ sym (q κ a), refl);
  read_number = λ f g p q κ a. (p κ a ∙ sym (q κ a), refl);
  table_to = λ f g p q κ a. (p κ a ∙ sym (q κ a), refl);
  faulty_line_lem = λ f g p q κ a. (p κ a ∙ sym (q κ a), refl);
  read_record = λ f g p q κ a. (numbered_one _ _ (p κ a ∙ sym (q κ a)), refl);
  body_length_lem = λ f g p q κ a. (p κ a ∙ sym (q κ a), refl);
  is_event_lem = λ f g p q κ a. (p κ a ∙ sym (q κ a), refl);
  event_of_lem = λ f g p q κ a. (p κ a ∙ sym (q κ a), refl);
  replay = λ f g p q κ a. ((p κ a).0 ∙ sym (q κ a).0, (p κ a).1.0 ∙ sym (q κ a).1.0);
  buffer = λ n small f g p q κ a. ((p κ a).0 ∙ sym (q κ a).0, refl);
  file_buffer = λ f g p q κ a. ((p κ a).0 ∙ sym (q κ a).0, refl);
  text_buffer = λ f g p q κ a. ((p κ a).0 ∙ sym (q κ a).0, refl);
  short_text_buffer = λ f g p q κ a. ((p κ a).0 ∙ sym (q κ a).0, refl);
  read_image = λ f g p q κ a. (numbered_one _ _ (p κ a ∙ sym (q κ a)), refl);
  write_image = λ f g p q κ a. ((p κ a).0 ∙ sym (q κ a).0, (p κ a).1 ∙ sym (q κ a).1);
  phase_tag = λ f g p q κ a. (p κ a ∙ sym (q κ a), refl);
  mode_tagged = λ f g p q κ a. (p κ a ∙ sym (q κ a), refl);
  mode_of = λ f g p q κ a. (p κ a ∙ sym (q κ a), refl);
  number_tagged = λ f g p q κ a. (p κ a ∙ sym (q κ a), refl);
  number_of = λ f g p q κ a. (p κ a ∙ sym (q κ a), refl);
  export_layout = λ f g p q κ a. (p κ a ∙ sym (q κ a), refl);
  export_fresh = λ f g p q κ a. ((p κ a).0 ∙ sym (q κ a).0, (p κ a).1 ∙ sym (q κ a).1);
  export_is_sound = λ f g p q κ a. (p κ a ∙ sym (q κ a), refl);
  export_executing = λ f g p q κ a. (p κ a ∙ sym (q κ a), refl);
  export_step = λ f g p q κ a. ((p κ a).0 ∙ sym (q κ a).0, (p κ a).1 ∙ sym (q κ a).1);
  export_bound = λ f g p q κ a. ((p κ a).0 ∙ sym (q κ a).0, (p κ a).1 ∙ sym (q κ a).1);
  export_replay = λ f g p q κ a. ((p κ a).0 ∙ sym (q κ a).0, (p κ a).1 ∙ sym (q κ a).1);
  export_meter = λ f g p q κ a. ((p κ a).0 ∙ sym (q κ a).0, (p κ a).1 ∙ sym (q κ a).1);
  unusable_state = λ f g p q κ a. (p κ a ∙ sym (q κ a), refl);
  refusal_number = λ f g p q κ a. (p κ a ∙ sym (q κ a), refl);
  no_entry = λ f g p q κ a. (p κ a ∙ sym (q κ a), refl);
  blank_server = λ f g p q κ a. (p κ a ∙ sym (q κ a), refl);
  blank_task = λ f g p q κ a. (p κ a ∙ sym (q κ a), refl);
  with_phase_lem = λ f g p q κ a. (p κ a ∙ sym (q κ a), refl);
  with_mode = λ f g p q κ a. (p κ a ∙ sym (q κ a), refl);
  with_runs_lem = λ f g p q κ a. (p κ a ∙ sym (q κ a), refl);
  with_owner_lem = λ f g p q κ a. (p κ a ∙ sym (q κ a), refl);
  refused = λ f g p q κ a. (p κ a ∙ sym (q κ a), refl);
  refused_by_name = λ f g p q κ a. (p κ a ∙ sym (q κ a), refl);
  executor_in_lem = λ f g p q κ a. (p κ a ∙ sym (q κ a), refl);
  in_use = λ f g p q κ a. (p κ a ∙ sym (q κ a), refl);
  in_set_lem = λ f g p q κ a. (p κ a ∙ sym (q κ a), refl);
  is_idle = λ f g p q κ a. (p κ a ∙ sym (q κ a), refl);
  is_active = λ f g p q κ a. (p κ a ∙ sym (q κ a), refl);
  is_running = λ f g p q κ a. (p κ a ∙ sym (q κ a), refl);
  is_recharging = λ f g p q κ a. (p κ a ∙ sym (q κ a), refl);
  is_suspended = λ f g p q κ a. (p κ a ∙ sym (q κ a), refl);
  awaited_no = λ f g p q κ a. (p κ a ∙ sym (q κ a), refl);
  owner_no_lem = λ f g p q κ a. (p κ a ∙ sym (q κ a), refl);
  counts_fit_lem = λ f g p q κ a. (p κ a ∙ sym (q κ a), refl);
  quota_fits_lem = λ f g p q κ a. (p κ a ∙ sym (q κ a), refl);
  refused_if_lem = λ e laws bounds f g p q κ a. (p κ a ∙ sym (q κ a), refl);
}
