-- A state in lent bytes: what was written is read back, and writing what was read changes nothing. Both go by where the parts of the state stand in the
-- bytes (`Laid`). Assumes nothing.
use Rattle.std.specs.Prelude.{Ok, Err}
use mathlib.Core.Path.{◌≡◌, refl, sym, ap, ◌∙◌}
use mathlib.Core.Bool.{true, false}
use mathlib.Core.List.{List, ◌++◌}
use mathlib.Core.Option.{some}
use Prim.Native.Nat.{ℕ, ◌+◌, ◌*◌, ◌<◌, ◌≤◌}
use native.Mathlib.Omega.{arith}
use lib.Dec.{eqb}
use lib.ListN.{length, replicate}
use borrow.Author.Tests.{eq-eqb, ne_eqb, eqb-true}
use Rattle.laws.specs.Loops.{all_to, set_to}
use Rattle.laws.proofs.Cases.{split, and_left, and_right, and_both, none_some}
use Rattle.laws.proofs.Set.{set_done}
use Rattle.laws.proofs.All.{all_at, all_each}
use Rattle.model.specs.declared.State.{State}
use Rattle.model.specs.State.{places, no_server, no_task, no_resource, server_at, task_at, resource_at}
use Rattle.model.specs.Fresh.{blank_server, blank_task, blank_resource}
use Rattle.lent_bytes.specs.Numbers.{two_bytes, four_bytes, two, four, Bytes, Fits16, Fits32}
use Rattle.lent_bytes.specs.Writing.{stored}
use Rattle.lent_bytes.proofs.Writing.{stored_length}
use Rattle.lent_bytes.proofs.Stands.{Stands}
use Rattle.lent_bytes.proofs.Codec.{Codec, ◌then◌, Any, two_codec, four_codec}
use Rattle.image.specs.Layout.{header_size, server_size, task_size, resource_size, servers_offset, tasks_offset, resources_offset, image_size, used}
use Rattle.image.specs.Encoded.{entries, server_bytes, task_bytes, resource_bytes, header_bytes, servers_bytes, tasks_bytes, resources_bytes, encoded, written}
use Rattle.image.specs.Decoded.{server_fits, tasks_used, resources_used, task_entries_fit, resource_entry_fits, is_image, entry_in, entries_in, server_in, task_in, resource_in, state_in, decoded, imaged_by}
use Rattle.image.specs.Fits.{FitsServer, FitsTask, FitsResource, Fits}
use Rattle.image.specs.InUse.{blank_past}
use Rattle.image.proofs.Stored.{stands_before, stored_stands, stored_same}
use Rattle.image.proofs.Parts.{entries_long, entries_back, entries_good, entries_forth, server_codec, task_codec, resource_codec}

-- the counts and the clock
header_codec
    : Codec header_size
    (λ (p : ℕ × (ℕ × (ℕ × ℕ))). two p.0 ++ two p.1.0 ++ two p.1.1.0 ++ four p.1.1.1)
    (λ bytes at. (two_bytes bytes at, (two_bytes bytes (at + 2), (two_bytes bytes (at + 2 + 2), four_bytes bytes (at + 2 + 2 + 2)))))
    (λ p. Fits16 p.0 × (Fits16 p.1.0 × (Fits16 p.1.1.0 × Fits32 p.1.1.1)))
    (λ bytes at. Any bytes at × (Any bytes at × (Any bytes at × Any bytes at)))
unfolding two four
header_codec = two_codec then two_codec then two_codec then four_codec

-- the parts of a state stand in the bytes, each at its offset
pub record Laid (st : State) (bytes : List ℕ) : Type 0 where
  pub header : Stands (header_bytes st) bytes 0
  pub servers : Stands (servers_bytes st) bytes servers_offset
  pub tasks : Stands (tasks_bytes st) bytes tasks_offset
  pub resources : Stands (resources_bytes st) bytes resources_offset

-- how long they are
module _ (st : State) where
  pub header_long : length (header_bytes st) ≡ header_size
  unfolding header_bytes two four
  header_long = refl

  pub servers_long : length (servers_bytes st) ≡ server_size * used st.tasks
  servers_long = entries_long server_codec no_server blank_server (used st.tasks) st.server

  pub tasks_long : length (tasks_bytes st) ≡ task_size * used st.tasks
  tasks_long = entries_long task_codec no_task blank_task (used st.tasks) st.task

  pub resources_long : length (resources_bytes st) ≡ resource_size * used st.resources
  resources_long = entries_long resource_codec no_resource blank_resource (used st.resources) st.resource

module _ (st : State) (bytes : List ℕ) where
  pub encoded_long : length (encoded st bytes) ≡ length bytes
  unfolding encoded
  encoded_long = simp stored_length

  -- writing lays them down,
  pub encoded_laid : length bytes ≡ image_size → Laid st (encoded st bytes)
  unfolding encoded
  encoded_laid long =
      let h = header_long st in
      let s = servers_long st in
      let t = tasks_long st in
      let r = resources_long st in
      let first = stored bytes 0 (header_bytes st) in
      let second = stored first servers_offset (servers_bytes st) in
      let third = stored second tasks_offset (tasks_bytes st) in
      record {
        header =
            stands_before (header_bytes st) (resources_bytes st) third 0 resources_offset (omega arith)
            (stands_before (header_bytes st) (tasks_bytes st) second 0 tasks_offset (omega arith)
            (stands_before (header_bytes st) (servers_bytes st) first 0 servers_offset (omega arith) (stored_stands (header_bytes st) bytes 0 (omega arith))));
        servers =
            stands_before (servers_bytes st) (resources_bytes st) third servers_offset resources_offset (omega arith)
            (stands_before (servers_bytes st) (tasks_bytes st) second servers_offset tasks_offset (omega arith)
            (stored_stands (servers_bytes st) first servers_offset (simp stored_length (omega arith))));
        tasks =
            stands_before (tasks_bytes st) (resources_bytes st) third tasks_offset resources_offset (omega arith)
            (stored_stands (tasks_bytes st) second tasks_offset (simp stored_length (omega arith)));
        resources = stored_stands (resources_bytes st) third resources_offset (simp stored_length (omega arith));
      }

  module _ (laid : Laid st bytes) where
    -- where they lie already it changes nothing,
    pub laid_same : encoded st bytes ≡ bytes
    unfolding encoded
    laid_same =
        rw (
          stored_same (header_bytes st) bytes 0 laid.header,
          stored_same (servers_bytes st) bytes servers_offset laid.servers,
          stored_same (tasks_bytes st) bytes tasks_offset laid.tasks,
          stored_same (resources_bytes st) bytes resources_offset laid.resources,
        )

    -- the counts are read again,
    pub laid_tasks : two_bytes bytes 2 ≡ st.tasks
    unfolding header_bytes two two_bytes
    laid_tasks = omega (arith, laid.header.1.1.0, laid.header.1.1.1.0)

    pub laid_resources : two_bytes bytes 4 ≡ st.resources
    unfolding header_bytes two two_bytes
    laid_resources = omega (arith, laid.header.1.1.1.1.0, laid.header.1.1.1.1.1.0)

    module _ (long : length bytes ≡ image_size) (fit : Fits st) where
      servers_fit : (i : ℕ) → i < used st.tasks → FitsServer (server_at st i)
      servers_fit i l = fit.server.each i (omega arith)

      tasks_fit : (i : ℕ) → i < used st.tasks → FitsTask (task_at st i)
      tasks_fit i l = fit.task.each i (omega arith)

      resources_fit : (r : ℕ) → r < used st.resources → FitsResource (resource_at st r)
      resources_fit r l = fit.resource.each r (omega arith)

      laid_image : is_image bytes ≡ true
      unfolding is_image task_entries_fit resource_entry_fits
      laid_image =
          rw (eq-eqb (length bytes) image_size long, laid_tasks, laid_resources)
          (and_both _ _
          (all_each _ (used st.tasks)
          (λ i l.
          and_both _ _
          (entries_good server_codec no_server blank_server (used st.tasks) st.server bytes servers_offset servers_fit laid.servers i l)
          (entries_good task_codec no_task blank_task (used st.tasks) st.task bytes tasks_offset tasks_fit laid.tasks i l)))
          (all_each _ (used st.resources)
          (entries_good resource_codec no_resource blank_resource (used st.resources) st.resource bytes resources_offset resources_fit laid.resources)))

      laid_state : state_in bytes ≡ blank_past st
      unfolding state_in blank_past header_bytes two four
      laid_state =
          let counts = header_codec.back (st.processors, (st.tasks, (st.resources, st.clock))) bytes 0 (fit.processors, (fit.tasks, (fit.resources, fit.clock))) laid.header in
          let servers = entries_back server_codec no_server blank_server (used st.tasks) st.server bytes servers_offset servers_fit laid.servers in
          let tasks = entries_back task_codec no_task blank_task (used st.tasks) st.task bytes tasks_offset tasks_fit laid.tasks in
          let resources = entries_back resource_codec no_resource blank_resource (used st.resources) st.resource bytes resources_offset resources_fit laid.resources in
          λ j. record {
            processors = (counts j).0;
            tasks = laid_tasks j;
            resources = laid_resources j;
            clock = (counts j).1.1.1;
            server = (ap (λ k. entries_in server_in server_size blank_server (used k) bytes servers_offset) laid_tasks ∙ servers) j;
            task = (ap (λ k. entries_in task_in task_size blank_task (used k) bytes tasks_offset) laid_tasks ∙ tasks) j;
            resource = (ap (λ k. entries_in resource_in resource_size blank_resource (used k) bytes resources_offset) laid_resources ∙ resources) j;
          }

      -- and so is the state, with blank entries past its counts
      laid_decoded : decoded bytes ≡ some (blank_past st)
      unfolding decoded
      laid_decoded = rw (laid_image, laid_state)

-- as many bytes as a state takes
pub image_long : (bytes : List ℕ) → is_image bytes ≡ true → length bytes ≡ image_size
unfolding is_image
image_long bytes y = eqb-true (length bytes) image_size (and_left _ _ y)

-- the state that is read lies in the bytes
read_laid : (bytes : List ℕ) → Bytes bytes → is_image bytes ≡ true → Laid (state_in bytes) bytes
unfolding is_image state_in header_bytes two four task_entries_fit resource_entry_fits
read_laid bytes all y =
    let entries = and_right (eqb (length bytes) image_size) _ y in
    let pair : (i : ℕ) → i < tasks_used bytes → task_entries_fit bytes i ≡ true = λ i l. all_at _ (tasks_used bytes) i l (and_left _ _ entries) in
    record {
      header = header_codec.forth bytes 0 all (tt, (tt, (tt, tt)));
      servers = entries_forth server_codec no_server blank_server (tasks_used bytes) bytes servers_offset (omega arith) all (λ i l. and_left _ _ (pair i l));
      tasks =
          entries_forth task_codec no_task blank_task (tasks_used bytes) bytes tasks_offset (omega arith) all
          (λ i l. and_right (server_fits bytes (servers_offset + server_size * i)) _ (pair i l));
      resources =
          entries_forth resource_codec no_resource blank_resource (resources_used bytes) bytes resources_offset (omega arith) all
          (λ r l. all_at _ (resources_used bytes) r l (and_right (all_to (tasks_used bytes) (task_entries_fit bytes)) _ entries));
    }

module _ (bytes : List ℕ) (st : State) (e : decoded bytes ≡ some st) where
  -- what is read of bytes that are an image
  decoded_state : (is_image bytes ≡ true) × (state_in bytes ≡ st)
  unfolding decoded
  decoded_state =
      split (is_image bytes)
      (λ y. let d : some (state_in bytes) ≡ some st = rw y at e in (y, cc))
      (λ n. none_some (rw n at e))

  pub decoded_laid : Bytes bytes → Laid st bytes
  decoded_laid all = rw (← decoded_state.1) (read_laid bytes all decoded_state.0)

  pub decoded_long : length bytes ≡ image_size
  decoded_long = image_long bytes decoded_state.0

  pub decoded_counts : (st.tasks ≡ two_bytes bytes 2) × (st.resources ≡ two_bytes bytes 4)
  unfolding state_in
  decoded_counts = (ap (λ x. x.tasks) (sym decoded_state.1), ap (λ x. x.resources) (sym decoded_state.1))

-- what was written is read back, with blank entries past the counts
pub decoded_encoded
    : (st : State) (bytes : List ℕ) → Fits st → length bytes ≡ image_size → decoded (encoded st bytes) ≡ some (blank_past st)
decoded_encoded st bytes fit long =
    laid_decoded st (encoded st bytes) (encoded_laid st bytes long) (encoded_long st bytes ∙ long) fit

-- and writing what was read changes nothing
pub encoded_decoded : (bytes : List ℕ) (st : State) → Bytes bytes → decoded bytes ≡ some st → encoded st bytes ≡ bytes
encoded_decoded bytes st all e = laid_same st bytes (decoded_laid bytes st e all)

-- n turns of a loop that reads entries, for the code
pub entries_read
    : {A : Type 0} (get : List ℕ → ℕ → A) (size : ℕ) (blank : A) (bytes : List ℕ) (at i n m : ℕ) (xs ys : List A)
    → i ≤ m → m ≤ i → m ≡ n → xs ≡ replicate places blank → ys ≡ set_to i (entry_in get size bytes at) xs → ys ≡ entries_in get size blank n bytes at
unfolding entries_in
entries_read get size blank bytes at i n m xs ys l g c e h =
    set_done _ i n xs ys (omega arith) (omega arith) h ∙ ap (set_to n (entry_in get size bytes at)) e

-- the ways out of reading and of writing, for the code
module _ (bytes : List ℕ) where
  pub read_held : (st : State) → is_image bytes ≡ true → st ≡ state_in bytes → Ok st ≡ imaged_by (decoded bytes)
  unfolding decoded
  read_held st y e = rw (y, e)

  pub read_refused : is_image bytes ≡ false → Err 1 ≡ imaged_by (decoded bytes)
  unfolding decoded
  read_refused n = rw n

  -- the parts one after the other, n servers and tasks and r resources
  module _ (st : State) (n r : ℕ) (tasks : n ≡ used st.tasks) (resources : r ≡ used st.resources) {one two three exit : List ℕ} where
    pub write_whole
        : length bytes ≡ image_size
        → one ≡ stored bytes 0 (header_bytes st)
        → two ≡ stored one servers_offset (entries server_bytes no_server n st.server)
        → three ≡ stored two tasks_offset (entries task_bytes no_task n st.task)
        → exit ≡ stored three resources_offset (entries resource_bytes no_resource r st.resource)
        → exit ≡ written st bytes
    unfolding encoded
    write_whole long e f g h = rw (eq-eqb (length bytes) image_size long) (cc)

  pub write_none : (st : State) → (length bytes ≡ image_size → ⊥) → bytes ≡ written st bytes
  write_none st e = rw (ne_eqb (length bytes) image_size e)
