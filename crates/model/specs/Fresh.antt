-- The state from which a table starts, and its refusals 19 to 21: rules 5.1 to 5.5. Assumes nothing.
use Rattle.std.specs.Prelude.{not, ℕ, ltb, get_or, replicate, if◌then◌else◌, None}
use Rattle.std.proofs.Math.Option.{Option, none, some}
use Rattle.laws.specs.Tests.{◌when◌or◌, accepted, first_of, ◌or_else◌}
use Rattle.laws.specs.Loops.{set_to, fold_to}
use Rattle.model.specs.declared.Phase.TheVariants.{Idle}
use Rattle.model.specs.declared.Mode.TheVariants.{Suspended}
use Rattle.model.specs.declared.Server.{Server}
use Rattle.model.specs.declared.Task.{Task}
use Rattle.model.specs.declared.Resource.{Resource}
use Rattle.model.specs.declared.State.{State}
use Rattle.model.specs.declared.Entry.{Entry}
use Rattle.model.specs.declared.Table.{Table}
use Rattle.model.specs.Verdicts.{Verdict, verdict}
use Rattle.model.specs.State.{TaskNumber, ServerNumber, places, no_server}
use Rattle.model.specs.Sound.{counts_fit, quota_fits, declared_fits}

-- rule 5.1: a task's line of the table
abbrev pub no_entry : Entry
no_entry = record { quota = 0; period = 0; declared = 0 }

abbrev pub entry_at : Table → TaskNumber → Entry
entry_at tb t = get_or tb.entry t no_entry

-- rule 5.4: 19 for the counts
unfoldable pub counts_refusal : Table → Option ℕ
counts_refusal tb = first_of (19 when not (counts_fit tb.processors tb.tasks tb.resources) or accepted)

-- rule 5.4: in a line 20 for quota or period, and after it 21 for a declared bit that is no resource's
unfoldable pub entry_refusal : ℕ → Entry → Option ℕ
entry_refusal resources e =
    first_of (20 when not (quota_fits e.quota e.period) or 21 when not (declared_fits resources e.declared) or accepted)

-- rule 5.1: a line past the tasks is not tested
unfoldable pub task_refusal : Table → TaskNumber → Option ℕ → Option ℕ
task_refusal tb t before = before or_else (if ltb t tb.tasks then entry_refusal tb.resources (entry_at tb t) else none)

-- rule 5.4: the counts first, then task by task in order
unfoldable pub fresh_refusal : Table → Option ℕ
fresh_refusal tb = fold_to places (task_refusal tb) (counts_refusal tb)

-- rule 5.3: entries that are not in use
abbrev pub blank_server : Server
blank_server = no_server

abbrev pub blank_task : Task
blank_task = record { mode = Suspended; runs = None; declared = 0; depth = 0; executed = 0; held = replicate places 0 }

abbrev pub blank_resource : Resource
blank_resource = record { owner = None; waiting = 0; queue = replicate places (record { 0 = 0 }) }

-- rule 5.2: an Idle server with a full budget, a suspended task that holds nothing; and the whole state
abbrev pub fresh_server : Entry → Server
fresh_server e = record { phase = Idle; budget = e.quota; deadline = 0; quota = e.quota; period = e.period; own = 0; lent = 0; spin = 0 }

abbrev pub fresh_task : Entry → Task
fresh_task e = record { mode = Suspended; runs = None; declared = e.declared; depth = 0; executed = 0; held = replicate places 0 }

unfoldable pub fresh_server_at : Table → ServerNumber → Server
fresh_server_at tb s = if ltb s tb.tasks then fresh_server (entry_at tb s) else blank_server

unfoldable pub fresh_task_at : Table → TaskNumber → Task
fresh_task_at tb t = if ltb t tb.tasks then fresh_task (entry_at tb t) else blank_task

unfoldable pub fresh_state : Table → State
fresh_state tb = record {
  processors = tb.processors;
  tasks = tb.tasks;
  resources = tb.resources;
  clock = 0;
  server = set_to places (fresh_server_at tb) (replicate places blank_server);
  task = set_to places (fresh_task_at tb) (replicate places blank_task);
  resource = replicate places blank_resource;
}

-- rule 5.5: what a refused table gives beside the number
abbrev pub unusable : State
unusable = record {
  processors = 0;
  tasks = 0;
  resources = 0;
  clock = 0;
  server = replicate places blank_server;
  task = replicate places blank_task;
  resource = replicate places blank_resource;
}

-- rules 5.2, 5.4, 5.5: the state that the table starts from, or the refusal's number and a state of no use
pub record Start : Type 0 where
  pub answer : Verdict
  pub state : State

abbrev pub fresh_by : Option ℕ → Table → Start
fresh_by none tb = record { answer = verdict none; state = fresh_state tb }
fresh_by (some n) tb = record { answer = verdict (some n); state = unusable }

unfoldable pub fresh_of : Table → Start
fresh_of tb = fresh_by (fresh_refusal tb) tb
