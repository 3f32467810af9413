-- What lies past the counts is not read, said by entries in use: they agree under labels that say what is in use. Assumes nothing.
use Rattle.theory.proofs.Kit.{◌≡◌, sym, ◌∙◌}
use Rattle.theory.proofs.Declared.{State, Event}
use Rattle.model.specs.Shape.{Shaped}
use Rattle.model.specs.Step.{stepped}
use Rattle.theory.specs.Runs.{SameInUse}
use Rattle.theory.proofs.Agreement.{Agree}
use Rattle.theory.proofs.Unread.{unread, stepped_here, stepped_present, used, used_covers, used_here, used_present}

same_agree : (st other : State) → Shaped st → Shaped other → SameInUse st other → Agree (used st) 0 st other
same_agree st other shaped also same = record {
  processors_same = same.processors;
  tasks_same = same.tasks;
  resources_same = same.resources;
  clock_same = same.clock;
  server_same = record { left_long = shaped.servers; right_long = also.servers; entry = λ i k. same.server i (used_here st i k) };
  task_same = record { left_long = shaped.tasks; right_long = also.tasks; entry = λ i k. same.task i (used_here st i k) };
  resource_same = record { left_long = shaped.resources; right_long = also.resources; entry = λ r k. same.resource r (used_present st r k) };
}

pub past_unread
    : (st other : State) (e : Event) → Shaped st → Shaped other → SameInUse st other
    → ((stepped st e).answer ≡ (stepped other e).answer) × SameInUse (stepped st e).state (stepped other e).state
past_unread st other e shaped also same =
    let c = used_covers st in
    let r = unread (used st) st other c (same_agree st other shaped also same) shaped also e in (
      r.0,
      record {
        processors = r.1.processors_same;
        tasks = r.1.tasks_same;
        resources = r.1.resources_same;
        clock = r.1.clock_same;
        server = λ i h. r.1.server_same.entry i (c.task i (sym (stepped_here st e i) ∙ h));
        task = λ i h. r.1.task_same.entry i (c.task i (sym (stepped_here st e i) ∙ h));
        resource = λ q p. r.1.resource_same.entry q (c.resource q (sym (stepped_present st e q) ∙ p));
      },
    )
