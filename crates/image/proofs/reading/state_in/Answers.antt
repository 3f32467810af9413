-- `image::reading::state_in` meets its contract. Assumes nothing.
use mathlib.Core.Path.{refl, ap, ◌∙◌}
use native.Mathlib.Omega.{arith}
use Rattle.laws.proofs.Set.{set_none, set_more}
use Rattle.image.specs.Layout.{used}
use Rattle.image.specs.Decoded.{entry_in, server_in, task_in, resource_in, state_in}
use Rattle.image.proofs.Image.{entries_read}
use Rattle.image.proofs.reading.state_in.Goals as goal

pub loop-i-init : goal.loop-i-init
loop-i-init c = record {
  few = omega (arith, c.used-tasks_used.ensures);
  counts = (refl, refl, refl, refl);
  servers = set_none _ _;
  tasks = set_none _ _;
  resources = refl;
}

pub loop-i-preserved : goal.loop-i-preserved
unfolding entry_in
loop-i-preserved c =
    let inv = c.loop-i.invariant in
    record {
      few = inv.few;
      counts = inv.counts;
      servers = set_more _ _ _ _ _ c.server_in.ensures inv.servers;
      tasks = set_more _ _ _ _ _ c.task_in.ensures inv.tasks;
      resources = inv.resources;
    }

pub loop-i-2-init : goal.loop-i-2-init
loop-i-2-init c = record {
  few = omega (arith, c.used-resources_used.ensures);
  counts = (refl, refl, refl, refl);
  servers = refl;
  tasks = refl;
  resources = set_none _ _;
}

pub loop-i-2-preserved : goal.loop-i-2-preserved
unfolding entry_in
loop-i-2-preserved c =
    let inv = c.loop-i-2.invariant in
    record {
      few = inv.few;
      counts = inv.counts;
      servers = inv.servers;
      tasks = inv.tasks;
      resources = set_more _ _ _ _ _ c.resource_in.ensures inv.resources;
    }

pub returns : goal.returns
unfolding state_in
returns c =
    let first = c.loop-i.invariant in
    let then = c.loop-i-2.invariant in
    let tasks = c.used-tasks_used.ensures ∙ ap used c.two_bytes-2.ensures in
    let resources = c.used-resources_used.ensures ∙ ap used (first.counts.2 ∙ c.two_bytes-3.ensures) in
    let blank = c.unusable_state.ensures in
    let servers = entries_read server_in 29 _ _ 10 _ _ _ _ _ (omega arith) c.loop-i-test.false tasks (ap (λ st. st.server) blank) first.servers in
    let read-tasks = entries_read task_in 46 _ _ 474 _ _ _ _ _ (omega arith) c.loop-i-test.false tasks (ap (λ st. st.task) blank) first.tasks in
    let read-resources =
    entries_read resource_in 37 _ _ 1210 _ _ _ _ _ (omega arith) c.loop-i-2-test.false resources (first.resources ∙ ap (λ st. st.resource) blank) then.resources in
    λ j. record {
      processors = (then.counts.0 ∙ first.counts.0 ∙ c.two_bytes.ensures) j;
      tasks = (then.counts.1 ∙ first.counts.1 ∙ c.two_bytes-2.ensures) j;
      resources = (then.counts.2 ∙ first.counts.2 ∙ c.two_bytes-3.ensures) j;
      clock = (then.counts.3 ∙ first.counts.3 ∙ c.four_bytes.ensures) j;
      server = (then.servers ∙ servers) j;
      task = (then.tasks ∙ read-tasks) j;
      resource = read-resources j;
    }
