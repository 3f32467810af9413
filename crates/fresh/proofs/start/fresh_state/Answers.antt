-- `fresh::start::fresh_state` meets its contract. Assumes nothing.
use Rattle.std.proofs.Common.{ℕ, ap, sym, ◌∙◌, ◌<◌, ◌≤◌, refl, arith, rules}
use Rattle.std.proofs.lemmas.List.{length-take-le}
use borrow.Author.Tests.{lt-ltb, le-ltb}
use Rattle.laws.proofs.Cases.{if_yes, if_no}
use Rattle.laws.proofs.Lists.{taken}
use Rattle.laws.proofs.Making.{making_none, making_more, making_rest}
use Rattle.model.specs.Fresh.{no_entry, blank_server, blank_task, fresh_server, fresh_task, fresh_server_at, fresh_task_at, fresh_state}
use Rattle.fresh.proofs.start.fresh_state.Goals as goal

pub loop-i-init : goal.loop-i-init
loop-i-init c = record {
  servers = making_none (ap (λ st. st.server) c.unusable_state.ensures);
  tasks = making_none (ap (λ st. st.task) c.unusable_state.ensures);
  counts = (refl, refl, refl, ap (λ st. st.clock) c.unusable_state.ensures);
  resources = ap (λ st. st.resource) c.unusable_state.ensures;
}

pub loop-i-preserved : goal.loop-i-preserved
unfolding fresh_server_at fresh_task_at
loop-i-preserved c =
    let kept = c.loop-i.invariant in
    let at = taken c.min.result c.loop-i.i c.args.tb.now.entry no_entry (search rules) c.loop-i-test.true in
    let below : c.loop-i.i < 16 = omega (arith, at.0, c.min.ensures, c.from.ensures) in
    let used : c.loop-i.i < c.args.tb.now.tasks = omega (arith, at.0, c.min.ensures, c.from.ensures) in
    record {
      servers = making_more below refl (c.fresh_server.ensures ∙ ap fresh_server at.1 ∙ sym (if_yes _ _ _ (lt-ltb _ _ used))) kept.servers;
      tasks = making_more below refl (c.fresh_task.ensures ∙ ap fresh_task at.1 ∙ sym (if_yes _ _ _ (lt-ltb _ _ used))) kept.tasks;
      counts = kept.counts;
      resources = kept.resources;
    }

pub returns : goal.returns
unfolding fresh_state fresh_server_at fresh_task_at
returns c =
    let kept = c.loop-i.invariant in
    let past : (j : ℕ) → c.loop-i.i ≤ j → j < 16 → c.args.tb.now.tasks ≤ j = λ j l m. omega (arith, c.loop-i-test.false, c.min.ensures, c.from.ensures, length-take-le c.min.result c.args.tb.now.entry (search rules)) in
    λ i.
    record {
      processors = kept.counts.0 i;
      tasks = kept.counts.1 i;
      resources = kept.counts.2 i;
      clock = kept.counts.3 i;
      server = making_rest blank_server (λ j l m. if_no _ _ _ (le-ltb _ _ (past j l m))) kept.servers i;
      task = making_rest blank_task (λ j l m. if_no _ _ _ (le-ltb _ _ (past j l m))) kept.tasks i;
      resource = kept.resources i;
    }
