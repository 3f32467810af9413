-- Bytes past the counts are neither read nor written (rule 1.7): images that are alike in use are read as one state, images of one state are alike in use,
-- writing one state into both keeps them alike, and a byte past the counts stays. Assumes nothing.
use Rattle.std.specs.Prelude.{if◌then◌else◌}
use mathlib.Core.Path.{◌≡◌, sym, ap, ap₂, ◌∙◌}
use mathlib.Core.Bool.{◌&&◌}
use mathlib.Core.List.{List}
use mathlib.Core.Logic.{◌⊎◌, inl, inr, ⊎_elim}
use mathlib.Core.Option.{none, some}
use Prim.Native.Nat.{ℕ, ◌+◌, ◌*◌, ◌<◌, ◌≤◌}
use native.Mathlib.Omega.{arith}
use lib.Dec.{ltb, eqb}
use lib.ListN.{length}
use borrow.Author.Tests.{ltb-true, ltb-false}
use Rattle.laws.specs.Loops.{all_to}
use Rattle.laws.proofs.Cases.{split}
use Rattle.laws.proofs.All.{all_ext}
use Rattle.laws.proofs.Reflect.{Reflects, reflects_le, reflects_lt, reflects_and, reflects_or, reflects_fails}
use Rattle.lent_bytes.specs.Numbers.{byte_at, two_bytes, Bytes}
use Rattle.lent_bytes.proofs.Writing.{stored_length}
use Rattle.model.specs.declared.State.{State}
use Rattle.model.specs.Fresh.{blank_server, blank_task, blank_resource}
use Rattle.image.specs.Layout.{header_size, server_size, task_size, resource_size, servers_offset, tasks_offset, resources_offset, image_size, used}
use Rattle.image.specs.Encoded.{header_bytes, servers_bytes, tasks_bytes, resources_bytes, encoded}
use Rattle.image.specs.Decoded.{tasks_used, resources_used, task_entries_fit, resource_entry_fits, is_image, entries_in, server_in, task_in, resource_in, state_in, decoded}
use Rattle.image.specs.InUse.{in_use_at, AlikeInUse, SamePast}
use Rattle.image.proofs.Stored.{stored_outside, stored_both, stands_agree}
use Rattle.image.proofs.Local.{SameBytes, two_same, four_same, entries_same, server_fits_same, task_fits_same, resource_fits_same, server_same, task_same, resource_same}
use Rattle.image.proofs.Image.{header_long, servers_long, tasks_long, resources_long, encoded_long, encoded_laid, laid_tasks, laid_resources, decoded_laid, decoded_long}

-- the test as a fact
abbrev Within : ℕ → ℕ → ℕ → ℕ → Type 0
Within offset size n i = (offset ≤ i) × (i < offset + size * n)

abbrev InUse : List ℕ → ℕ → Type 0
InUse bytes i =
    (i < header_size) ⊎
    (Within servers_offset server_size (tasks_used bytes) i ⊎
    (Within tasks_offset task_size (tasks_used bytes) i ⊎ Within resources_offset resource_size (resources_used bytes) i))

in_use_fact : (bytes : List ℕ) (i : ℕ) → Reflects (in_use_at bytes i) (InUse bytes i)
unfolding in_use_at
in_use_fact bytes i =
    let within : (offset size n : ℕ) → Reflects _ (Within offset size n i) = λ offset size n. reflects_and (reflects_le offset i) (reflects_lt i (offset + size * n)) in
    reflects_or (reflects_lt i header_size)
    (reflects_or (within servers_offset server_size (tasks_used bytes))
    (reflects_or (within tasks_offset task_size (tasks_used bytes)) (within resources_offset resource_size (resources_used bytes))))

-- images that are alike in use are read alike
module _ (a b : List ℕ) (alike : AlikeInUse a b) where
  header_same : SameBytes a b 0 header_size
  header_same i l m = alike.same i ((in_use_fact a i).test (inl m))

  servers_same : SameBytes a b servers_offset (servers_offset + server_size * tasks_used a)
  servers_same i l m = alike.same i ((in_use_fact a i).test (inr (inl (l, m))))

  tasks_same : SameBytes a b tasks_offset (tasks_offset + task_size * tasks_used a)
  tasks_same i l m = alike.same i ((in_use_fact a i).test (inr (inr (inl (l, m)))))

  resources_same : SameBytes a b resources_offset (resources_offset + resource_size * resources_used a)
  resources_same i l m = alike.same i ((in_use_fact a i).test (inr (inr (inr (l, m)))))

  task_count : two_bytes a 2 ≡ two_bytes b 2
  task_count = two_same a b 0 header_size header_same 2 (omega arith) (omega arith)

  resource_count : two_bytes a 4 ≡ two_bytes b 4
  resource_count = two_same a b 0 header_size header_same 4 (omega arith) (omega arith)

  image_same : is_image a ≡ is_image b
  unfolding is_image task_entries_fit resource_entry_fits
  image_same =
      let tasks =
      all_ext (tasks_used a) (task_entries_fit a) (task_entries_fit b)
      (λ i l.
      ap₂ ◌&&◌
      (server_fits_same a b _ _ servers_same (servers_offset + server_size * i) (omega arith) (omega arith))
      (task_fits_same a b _ _ tasks_same (tasks_offset + task_size * i) (omega arith) (omega arith))) in
      let resources =
      all_ext (resources_used a) (resource_entry_fits a) (resource_entry_fits b)
      (λ r l. resource_fits_same a b _ _ resources_same (resources_offset + resource_size * r) (omega arith) (omega arith)) in
      ap₂ ◌&&◌ (ap (λ n. eqb n image_size) alike.long)
      (ap₂ ◌&&◌
      (tasks ∙ ap (λ n. all_to (used n) (task_entries_fit b)) task_count)
      (resources ∙ ap (λ n. all_to (used n) (resource_entry_fits b)) resource_count))

  state_same : state_in a ≡ state_in b
  unfolding state_in
  state_same =
      let servers =
      entries_same server_in server_size blank_server (tasks_used a) a b servers_offset
      (λ i l. server_same a b _ _ servers_same (servers_offset + server_size * i) (omega arith) (omega arith)) in
      let tasks =
      entries_same task_in task_size blank_task (tasks_used a) a b tasks_offset
      (λ i l. task_same a b _ _ tasks_same (tasks_offset + task_size * i) (omega arith) (omega arith)) in
      let resources =
      entries_same resource_in resource_size blank_resource (resources_used a) a b resources_offset
      (λ r l. resource_same a b _ _ resources_same (resources_offset + resource_size * r) (omega arith) (omega arith)) in
      λ j. record {
        processors = two_same a b 0 header_size header_same 0 (omega arith) (omega arith) j;
        tasks = task_count j;
        resources = resource_count j;
        clock = four_same a b 0 header_size header_same 6 (omega arith) (omega arith) j;
        server = (servers ∙ ap (λ n. entries_in server_in server_size blank_server (used n) b servers_offset) task_count) j;
        task = (tasks ∙ ap (λ n. entries_in task_in task_size blank_task (used n) b tasks_offset) task_count) j;
        resource = (resources ∙ ap (λ n. entries_in resource_in resource_size blank_resource (used n) b resources_offset) resource_count) j;
      }

  pub alike_decoded : decoded a ≡ decoded b
  unfolding decoded
  alike_decoded = ap₂ (λ y st. if y then some st else none) image_same state_same

-- and back: of one state there is one image, but for the bytes past the counts
pub decoded_alike
    : (a b : List ℕ) (st : State) → Bytes a → Bytes b → decoded a ≡ some st → decoded b ≡ some st → AlikeInUse a b
decoded_alike a b st all-a all-b e f =
    let x = decoded_laid a st e all-a in
    let y = decoded_laid b st f all-b in
    let n = laid_tasks st a x in
    let r = laid_resources st a x in
    record {
      long = decoded_long a st e ∙ sym (decoded_long b st f);
      same = λ i h.
          ⊎_elim
          (λ (l : i < header_size). stands_agree (header_bytes st) a b 0 i x.header y.header (omega arith) (omega (arith, header_long st)))
          (⊎_elim
          (λ (l : Within servers_offset server_size (tasks_used a) i).
          stands_agree (servers_bytes st) a b servers_offset i x.servers y.servers l.0 (omega (arith, servers_long st)))
          (⊎_elim
          (λ (l : Within tasks_offset task_size (tasks_used a) i).
          stands_agree (tasks_bytes st) a b tasks_offset i x.tasks y.tasks l.0 (omega (arith, tasks_long st)))
          (λ (l : Within resources_offset resource_size (resources_used a) i).
          stands_agree (resources_bytes st) a b resources_offset i x.resources y.resources l.0 (omega (arith, resources_long st)))))
          ((in_use_fact a i).holds h);
    }

-- a byte that is not between two offsets is before or after
outside : (at end i : ℕ) → ((at ≤ i) × (i < end) → ⊥) → (i < at) ⊎ (end ≤ i)
outside at end i n =
    split (ltb i at)
    (λ y. inl (ltb-true i at y))
    (λ f. split (ltb i end) (λ y. absurd (n (ltb-false i at f, ltb-true i end y))) (λ g. inr (ltb-false i end g)))

-- a state of the same counts is written into the bytes in use,
module _ (st : State) (bytes : List ℕ) (tasks : st.tasks ≡ two_bytes bytes 2) (resources : st.resources ≡ two_bytes bytes 4) where
  pub encoded_past : SamePast bytes (encoded st bytes)
  unfolding encoded
  encoded_past i e =
      let past = reflects_fails (in_use_fact bytes i) e in
      let h = header_long st in
      let s = servers_long st in
      let t = tasks_long st in
      let r = resources_long st in
      stored_outside (resources_bytes st) _ resources_offset i (outside _ _ i (λ l. past (inr (inr (inr (l.0, omega arith))))))
      ∙ stored_outside (tasks_bytes st) _ tasks_offset i (outside _ _ i (λ l. past (inr (inr (inl (l.0, omega arith))))))
      ∙ stored_outside (servers_bytes st) _ servers_offset i (outside _ _ i (λ l. past (inr (inl (l.0, omega arith)))))
      ∙ stored_outside (header_bytes st) bytes 0 i (outside _ _ i (λ l. past (inl (omega arith))))

  -- which stay the bytes in use,
  counts_kept : length bytes ≡ image_size → (i : ℕ) → in_use_at (encoded st bytes) i ≡ in_use_at bytes i
  unfolding in_use_at
  counts_kept long i =
      let laid = encoded_laid st bytes long in
      rw (laid_tasks st (encoded st bytes) laid ∙ tasks, laid_resources st (encoded st bytes) laid ∙ resources)

encoded_both
    : (st : State) (a b : List ℕ) (i : ℕ) → length a ≡ length b → byte_at a i ≡ byte_at b i → byte_at (encoded st a) i ≡ byte_at (encoded st b) i
unfolding encoded
encoded_both st a b i long e =
    stored_both (resources_bytes st) _ _ resources_offset i (simp stored_length long)
    (stored_both (tasks_bytes st) _ _ tasks_offset i (simp stored_length long)
    (stored_both (servers_bytes st) _ _ servers_offset i (simp stored_length long) (stored_both (header_bytes st) a b 0 i long e)))

-- and images that are alike stay so
pub encoded_alike
    : (st : State) (a b : List ℕ) → st.tasks ≡ two_bytes a 2 → st.resources ≡ two_bytes a 4
    → length a ≡ image_size → AlikeInUse a b → AlikeInUse (encoded st a) (encoded st b)
encoded_alike st a b tasks resources long alike = record {
  long = encoded_long st a ∙ alike.long ∙ sym (encoded_long st b);
  same = λ i y. encoded_both st a b i alike.long (alike.same i (sym (counts_kept st a tasks resources long i) ∙ y));
}
