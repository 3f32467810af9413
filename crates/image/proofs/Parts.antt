-- The codecs of the parts of a state: entries in a row, enums, and the records of a server, a task and a resource. Assumes nothing.
use Rattle.std.specs.Prelude.{None, Some}
use Rattle.std.specs.Option.{option_map}
use mathlib.Core.Path.{◌≡◌, refl, sym, ap, subst, ◌∙◌}
use mathlib.Core.Bool.{true}
use mathlib.Core.List.{List, append_assoc}
use Prim.Native.Nat.{ℕ, ◌+◌, ◌*◌, ◌<◌, ◌≤◌}
use native.Mathlib.Nat.{add_assoc}
use native.Mathlib.Omega.{arith}
use lib.Dec.{ltb, eqb}
use lib.ListN.{length, get_or, take, replicate, length-replicate}
use lib.Seq.{ext_get_or, get_or-take}
use borrow.Author.Tests.{ltb-true, eqb-true, eqb-false, ne_eqb}
use Rattle.laws.specs.Loops.{set_to}
use Rattle.laws.proofs.Cases.{split, and_left, and_right, and_both}
use Rattle.laws.proofs.Join.{join_long}
use Rattle.laws.proofs.Set.{set_at_lem, set_same, length_set_to}
use Rattle.lent_bytes.specs.Numbers.{byte_at, one, two, Bytes, Fits16}
use Rattle.lent_bytes.specs.Writing.{stored}
use Rattle.lent_bytes.proofs.Stands.{Stands, stands_part, stands_parts}
use Rattle.lent_bytes.proofs.Codec.{Codec, ◌then◌, recoded, Any, two_codec, four_codec}
use Rattle.model.specs.declared.TaskNo.{TaskNo}
use Rattle.model.specs.declared.Phase.TheVariants.{Idle, Active, Running, Recharging}
use Rattle.model.specs.declared.Mode.TheVariants.{Suspended, Ready, Waiting}
use Rattle.model.specs.State.{places}
use Rattle.image.specs.declared.Tagged.{Tagged}
use Rattle.image.specs.Encoded.{phase_tag, mode_tagged, number_tagged, runs_tagged, owner_tagged, tagged_bytes, entry_bytes, entries, no_task_no, task_no_bytes, server_bytes, task_bytes, resource_bytes}
use Rattle.image.specs.Decoded.{phase_of, mode_of, number_of, runs_of, owner_of, tag_fits, tagged_in, tagged_fits, server_fits, task_fits, resource_fits, entry_in, entries_in, task_no_in, server_in, task_in, resource_in}
use Rattle.image.specs.Fits.{FitsEach, FitsTaskNo, FitsServer, FitsTask, FitsResource}

-- the first n entries, of sixteen
module _
    {A : Type 0} {size : ℕ} {put : A → List ℕ} {get : List ℕ → ℕ → A} {Fit : A → Type 0} {Good : List ℕ → ℕ → Type 0}
    (a : Codec size put get Fit Good) (none blank : A) (n : ℕ)
  where
    pub entries_long : (xs : List A) → length (entries put none n xs) ≡ size * n
    unfolding entries entry_bytes
    entries_long xs = join_long (entry_bytes put none xs) size (λ i. a.long (get_or xs i none)) n

    -- each stands at its place
    each_stands
        : (xs : List A) (bytes : List ℕ) (at i : ℕ)
        → i < n → Stands (entries put none n xs) bytes at → Stands (put (get_or xs i none)) bytes (at + size * i)
    unfolding entries entry_bytes
    each_stands xs bytes at i l h = stands_part (entry_bytes put none xs) size (λ j. a.long (get_or xs j none)) n i bytes at l h

    module _ (xs : List A) (bytes : List ℕ) (at : ℕ) (fit : (i : ℕ) → i < n → Fit (get_or xs i none)) (h : Stands (entries put none n xs) bytes at) where
      pub entries_back : entries_in get size blank n bytes at ≡ set_to n (λ i. get_or xs i none) (replicate places blank)
      unfolding entries_in entry_in
      entries_back =
          set_same (entry_in get size bytes at) (λ i. get_or xs i none) n (replicate places blank)
          (λ i l. a.back (get_or xs i none) bytes (at + size * i) (fit i l) (each_stands xs bytes at i l h))

      pub entries_good : (i : ℕ) → i < n → Good bytes (at + size * i)
      entries_good i l = a.good (get_or xs i none) bytes (at + size * i) (fit i l) (each_stands xs bytes at i l h)

    pub entries_forth
        : (bytes : List ℕ) (at : ℕ) → n ≤ places → Bytes bytes → ((i : ℕ) → i < n → Good bytes (at + size * i))
        → Stands (entries put none n (entries_in get size blank n bytes at)) bytes at
    unfolding entries entry_bytes entries_in entry_in
    entries_forth bytes at most all g =
        stands_parts (entry_bytes put none (entries_in get size blank n bytes at)) size (λ j. a.long _) n bytes at
        (λ i l.
        subst (λ x. Stands (put x) bytes (at + size * i))
        (sym (set_at_lem n i (entry_in get size bytes at) (replicate places blank) none l (rw length-replicate (omega arith))))
        (a.forth bytes (at + size * i) all (g i l)))

-- all sixteen
module _
    {A : Type 0} {size : ℕ} {put : A → List ℕ} {get : List ℕ → ℕ → A} {Fit : A → Type 0} {Good : List ℕ → ℕ → Type 0}
    (a : Codec size put get Fit Good) (none blank : A)
  where
    sixteen
        : Codec (size * places)
        (entries put none places)
        (entries_in get size blank places)
        (FitsEach Fit none)
        (λ bytes at. (i : ℕ) → i < places → Good bytes (at + size * i))
    sixteen = record {
      long = entries_long a none blank places;
      back = λ xs bytes at fit h.
          entries_back a none blank places xs bytes at fit.each h
          ∙ ext_get_or none (set_to places (λ i. get_or xs i none) (replicate places blank)) xs
          (length_set_to places (λ i. get_or xs i none) (replicate places blank) ∙ length-replicate places blank ∙ sym fit.long)
          (λ i l.
          let k : i < places = omega (arith, length_set_to places (λ i. get_or xs i none) (replicate places blank), length-replicate places blank) in
          set_at_lem places i (λ i. get_or xs i none) (replicate places blank) none k (rw length-replicate k));
      good = λ xs bytes at fit h. entries_good a none blank places xs bytes at fit.each h;
      forth = λ bytes at all g. entries_forth a none blank places bytes at (omega arith) all g;
    }

task_no_codec : Codec 2 task_no_bytes task_no_in FitsTaskNo Any
unfolding task_no_bytes
task_no_codec =
    recoded two_codec (λ t. t.0) (λ n. record { 0 = n }) (λ n. refl) (λ t. refl)
    (λ t. refl) (λ bytes at. refl) (λ t fit. fit) (λ bytes at g. tt) (λ bytes at g. tt)

-- an enum as the number of a variant and the number that the variant holds
record Tagging {E : Type 0} (last : ℕ) (put : E → Tagged) (of : Tagged → E) : Type 0 where
  home : (e : E) → of (put e) ≡ e
  known : (e : E) → tag_fits last (put e) ≡ true
  again : (t : Tagged) → tag_fits last t ≡ true → ((put (of t)).tag ≡ t.tag) × ((put (of t)).number ≡ t.number)

module _ {E : Type 0} {last : ℕ} {put : E → Tagged} {of : Tagged → E} (g : Tagging last put of) where
  told : (e : E) (bytes : List ℕ) (at : ℕ) → Fits16 (put e).number → Stands (tagged_bytes (put e)) bytes at → tagged_in bytes at ≡ put e
  unfolding tagged_bytes one two
  told e bytes at fit h = λ i. record { tag = h.0 i; number = two_codec.back (put e).number bytes (at + 1) fit h.1 i }

  tagged_codec
      : Codec 3
      (λ e. tagged_bytes (put e))
      (λ bytes at. of (tagged_in bytes at))
      (λ e. Fits16 (put e).number)
      (λ bytes at. tagged_fits last bytes at ≡ true)
  unfolding tagged_bytes one two tagged_fits
  tagged_codec = record {
    long = λ e. refl;
    back = λ e bytes at fit h. ap of (told e bytes at fit h) ∙ g.home e;
    good = λ e bytes at fit h. ap (tag_fits last) (told e bytes at fit h) ∙ g.known e;
    forth = λ bytes at all k.
        let e = g.again (tagged_in bytes at) k in
        rw (e.0, e.1)
        (refl, two_codec.forth bytes (at + 1) all tt);
  }

-- the tests as facts: no variant past the last, and no number in an earlier one
most : (last : ℕ) (t : Tagged) → tag_fits last t ≡ true → t.tag ≤ last
most last t k =
    split
    (eqb t.tag last)
    (λ y. omega (arith, eqb-true t.tag last y))
    (λ e. omega (arith, ltb-true t.tag last (and_left (ltb t.tag last) (eqb t.number 0) (rw e at k))))

none : (last : ℕ) (t : Tagged) → tag_fits last t ≡ true → (t.tag ≡ last → ⊥) → 0 ≡ t.number
none last t k e =
    sym (eqb-true t.number 0 (and_right (ltb t.tag last) (eqb t.number 0) (rw (ne_eqb t.tag last e) at k)))

mode_tagging : Tagging 2 mode_tagged mode_of
mode_tagging = record {
  home = λ e. elim e as (λ x. mode_of (mode_tagged x) ≡ x) [ Suspended ↦ refl | Ready ↦ refl | Waiting r ↦ refl ];
  known = λ e. elim e as (λ x. tag_fits 2 (mode_tagged x) ≡ true) [ Suspended ↦ refl | Ready ↦ refl | Waiting r ↦ refl ];
  again = λ t k.
      split
      (eqb t.tag 0)
      (λ y. let e = eqb-true t.tag 0 y in rw y (sym e, none 2 t k (λ z. omega arith)))
      (λ a.
      split
      (eqb t.tag 1)
      (λ y. let e = eqb-true t.tag 1 y in rw (a, y) (sym e, none 2 t k (λ z. omega arith)))
      (λ b. rw (a, b) (omega (arith, eqb-false t.tag 0 a, eqb-false t.tag 1 b, most 2 t k), refl)));
}

-- a number or none, in a struct of its own
module _ {A : Type 0} (number : A → ℕ) (make : ℕ → A) (there : (n : ℕ) → number (make n) ≡ n) (home : (a : A) → make (number a) ≡ a) where
  number_tagging : Tagging 1 (λ o. number_tagged (option_map number o)) (λ t. option_map make (number_of t))
  number_tagging = record {
    home = λ o. elim o as (λ x. option_map make (number_of (number_tagged (option_map number x))) ≡ x) [ None ↦ refl | Some a ↦ ap Some (home a) ];
    known = λ o. elim o as (λ x. tag_fits 1 (number_tagged (option_map number x)) ≡ true) [ None ↦ refl | Some a ↦ refl ];
    again = λ t k.
        split
        (eqb t.tag 0)
        (λ y. let e = eqb-true t.tag 0 y in rw y (sym e, none 1 t k (λ z. omega arith)))
        (λ a. rw a (omega (arith, eqb-false t.tag 0 a, most 1 t k), there t.number));
  }

runs_tagging : Tagging 1 runs_tagged runs_of
runs_tagging = number_tagging (λ s. s.0) (λ n. record { 0 = n }) (λ n. refl) (λ s. refl)

owner_tagging : Tagging 1 owner_tagged owner_of
owner_tagging = number_tagging (λ t. t.0) (λ n. record { 0 = n }) (λ n. refl) (λ t. refl)

phase_again : (b : ℕ) → ltb b 4 ≡ true → phase_tag (phase_of b) ≡ b
phase_again b k =
    split (eqb b 0) (λ y. rw y (sym (eqb-true b 0 y)))
    (λ n. split (eqb b 1) (λ y. rw (n, y) (sym (eqb-true b 1 y)))
    (λ m. split (eqb b 2) (λ y. rw (n, m, y) (sym (eqb-true b 2 y)))
    (λ l. rw (n, m, l) (omega (arith, eqb-false b 0 n, eqb-false b 1 m, eqb-false b 2 l, ltb-true b 4 k)))))

phase_codec : Codec 1 (λ p. one (phase_tag p)) (λ bytes at. phase_of (byte_at bytes at)) (λ p. Unit {0}) (λ bytes at. server_fits bytes at ≡ true)
unfolding one server_fits
phase_codec = record {
  long = λ p. refl;
  back = λ p bytes at fit h. rw h.0 (elim p as (λ x. phase_of (phase_tag x) ≡ x) [ Idle ↦ refl | Active ↦ refl | Running ↦ refl | Recharging ↦ refl ]);
  good = λ p bytes at fit h. rw h.0 (elim p as (λ x. ltb (phase_tag x) 4 ≡ true) [ Idle ↦ refl | Active ↦ refl | Running ↦ refl | Recharging ↦ refl ]);
  forth = λ bytes at all k. (sym (phase_again (byte_at bytes at) k), tt);
}

pub server_codec : Codec 29 server_bytes server_in FitsServer (λ bytes at. server_fits bytes at ≡ true)
unfolding server_bytes server_in
server_codec =
    recoded
    (phase_codec then four_codec then four_codec then four_codec then four_codec then four_codec then four_codec then four_codec)
    (λ s. (s.phase, (s.budget, (s.deadline, (s.quota, (s.period, (s.own, (s.lent, s.spin))))))))
    (λ p. record {
      phase = p.0;
      budget = p.1.0;
      deadline = p.1.1.0;
      quota = p.1.1.1.0;
      period = p.1.1.1.1.0;
      own = p.1.1.1.1.1.0;
      lent = p.1.1.1.1.1.1.0;
      spin = p.1.1.1.1.1.1.1;
    })
    (λ p. refl) (λ s. refl) (λ s. simp append_assoc) (λ bytes at. simp add_assoc)
    (λ s f. (tt, (f.budget, (f.deadline, (f.quota, (f.period, (f.own, (f.lent, f.spin))))))))
    (λ bytes at g. g.0)
    (λ bytes at g. (g, (tt, (tt, (tt, (tt, (tt, (tt, tt))))))))

pub task_codec : Codec 46 task_bytes task_in FitsTask (λ bytes at. task_fits bytes at ≡ true)
unfolding task_bytes task_in task_fits
task_codec =
    recoded
    (tagged_codec mode_tagging then tagged_codec runs_tagging then two_codec then two_codec then four_codec then sixteen two_codec 0 0)
    (λ t. (t.mode, (t.runs, (t.declared, (t.depth, (t.executed, t.held))))))
    (λ p. record {
      mode = p.0;
      runs = p.1.0;
      declared = p.1.1.0;
      depth = p.1.1.1.0;
      executed = p.1.1.1.1.0;
      held = p.1.1.1.1.1;
    })
    (λ p. refl) (λ t. refl) (λ t. simp append_assoc) (λ bytes at. simp add_assoc)
    (λ t f. (f.mode, (f.runs, (f.declared, (f.depth, (f.executed, f.held))))))
    (λ bytes at g. and_both _ _ g.0 g.1.0)
    (λ bytes at g. (and_left _ _ g, (and_right (tagged_fits 2 bytes at) _ g, (tt, (tt, (tt, λ i l. tt))))))

pub resource_codec : Codec 37 resource_bytes resource_in FitsResource (λ bytes at. resource_fits bytes at ≡ true)
unfolding resource_bytes resource_in resource_fits
resource_codec =
    recoded
    (tagged_codec owner_tagging then two_codec then sixteen task_no_codec no_task_no no_task_no)
    (λ r. (r.owner, (r.waiting, r.queue)))
    (λ p. record { owner = p.0; waiting = p.1.0; queue = p.1.1 })
    (λ p. refl) (λ r. refl) (λ r. simp append_assoc) (λ bytes at. simp add_assoc)
    (λ r f. (f.owner, (f.waiting, f.queue)))
    (λ bytes at g. g.0)
    (λ bytes at g. (g, (tt, λ i l. tt)))

-- lengths of parts, for the code that writes them
pub tagged_long : (t : Tagged) → length (tagged_bytes t) ≡ 3
unfolding tagged_bytes one two
tagged_long t = refl

pub held_long : (held : List ℕ) → length (entries two 0 places held) ≡ 32
held_long held = (sixteen two_codec 0 0).long held

pub queue_long : (queue : List TaskNo) → length (entries task_no_bytes no_task_no places queue) ≡ 32
queue_long queue = (sixteen task_no_codec no_task_no no_task_no).long queue

-- an entry of the first n, for the code that writes them
pub taken_stored
    : {A : Type 0} (bytes : A → List ℕ) (nothing : A) (n i at : ℕ) (xs : List A) (l : List ℕ) {m : List ℕ}
    → i < n → m ≡ stored l at (bytes (get_or (take n xs) i nothing)) → m ≡ stored l at (entry_bytes bytes nothing xs i)
unfolding entry_bytes
taken_stored bytes nothing n i at xs l below e = e ∙ ap (λ x. stored l at (bytes x)) (get_or-take n xs i nothing below)
