-- How the code computes: a refusal as it is handed on, resources as the bits of a number, the spans that a calculation goes over, and what an
-- allowance makes of a calculation that never sees it. Nothing here has to be believed: `bound::answer::bound` promises `Answer.answer`, and the laws
-- that join the two stand in proofs/ (`Masks`, `Spans`, `Skips`, `Turns`). Entries past the count say nothing. Assumes nothing.
use Rattle.std.specs.Prelude.{◌≡◌, Bool, not, List, ℕ, ◌+◌, ◌-◌, ◌*◌, ◌/◌, ◌%◌, ◌^◌, ◌<◌, ◌≤◌, leb, eqb, get_or, if◌then◌else◌, Option, Some, None, IfSome}
use Rattle.std.proofs.Math.Option.{none}
use Rattle.std.proofs.Props.{props}
use Rattle.laws.specs.Tests.{accepted, ◌when◌or◌}
use Rattle.laws.specs.Loops.{set_to}
use Rattle.bound.specs.declared.Sections.{Sections}
use Rattle.bound.specs.declared.Span.{Span}
use Rattle.bound.specs.declared.Resources.{Resources as Bits}
use Rattle.bound.specs.declared.Tally.{Tally}
use Rattle.bound.specs.Sets.{task_numbers, resource_numbers, Resources, no_resource}
use Rattle.bound.specs.Table.{Parent, section_numbers, million, section_at, parent_fits, above, outer, table_refusal}
use Rattle.bound.specs.Interference.{Weighed}

-- 41 and 42 of section i but for its own numbers, where it is said to stand in p
abbrev pub parent_tests : Sections → ℕ → ℕ → List (ℕ × Bool)
parent_tests s i p = 41 when not (parent_fits s i (Some p)) or 42 when not (above s (section_at s i).resource (Some p)) or accepted

-- a set of resources: bit r of a number says whether resource r is in it
unfoldable pub in_mask : ℕ → ℕ → Bool
in_mask m r = eqb (m / 2 ^ r % 2) 1

unfoldable pub resources_of : ℕ → Resources
resources_of m = set_to resource_numbers (in_mask m) no_resource

-- and such a number as the code holds it
abbrev pub no_bits : Bits
no_bits = record { bits = 0 }

-- spans: the first number of the sections that a calculation goes over, and the end of their numbers
abbrev pub Spans : Type 0
Spans = List Span

abbrev pub no_span : Span
no_span = record { from = 0; end = 0 }

-- the span of a task's sections on a resource, and that of the sections directly in a section or in none
abbrev pub on_span : ℕ → ℕ → ℕ
on_span task resource = task * resource_numbers + resource

abbrev pub in_span : Parent → ℕ
in_span None = task_numbers * resource_numbers
in_span (Some p) = task_numbers * resource_numbers + 1 + p

abbrev pub from_in : Spans → ℕ → ℕ
from_in spans k = (get_or spans k no_span).from

abbrev pub end_in : Spans → ℕ → ℕ
end_in spans k = (get_or spans k no_span).end

-- a span with section i at its end
abbrev pub widened : Span → ℕ → Span
widened span i = record { from = if eqb span.end 0 then i else span.from; end = i + 1 }

-- section i stands in span k
abbrev pub Covers : Spans → ℕ → ℕ → Type 0
Covers spans k i = (from_in spans k ≤ i) × (i < end_in spans k)

-- every section stands in its spans, of which none goes past the count
pub record Spanned (s : Sections) (spans : Spans) : Type 0 where
  pub in_order : (k : ℕ) → from_in spans k ≤ end_in spans k - 1
  pub end_most : (k : ℕ) → end_in spans k ≤ s.count
  pub on_covered : (i : ℕ) → i < s.count → Covers spans (on_span (section_at s i).task.0 (section_at s i).resource) i
  pub in_covered : (i : ℕ) → i < s.count → Covers spans (in_span (section_at s i).parent) i

-- the table is accepted, and what is drawn of it is its own: the outer resources of each section, and the spans
pub record Laid (s : Sections) (outers : List Bits) (spans : Spans) : Type 0 where
  pub accepted : table_refusal s ≡ none
  pub few : s.count ≤ section_numbers
  pub outer_is : (i : ℕ) → i < s.count → resources_of (get_or outers i no_bits).bits ≡ outer s i
  pub spanned : Spanned s spans

-- what a ghost field says holds in one way only
Spanned-prop : (s : Sections) (spans : Spans) → IsProp (Spanned s spans)
Spanned-prop s spans x y =
    let order_prop : IsProp ((k : ℕ) → from_in spans k ≤ end_in spans k - 1) = Prim.hlevel props in
    let most_prop : IsProp ((k : ℕ) → end_in spans k ≤ s.count) = Prim.hlevel props in
    let on_prop : IsProp ((i : ℕ) → i < s.count → Covers spans (on_span (section_at s i).task.0 (section_at s i).resource) i) = Prim.hlevel props in
    let in_prop : IsProp ((i : ℕ) → i < s.count → Covers spans (in_span (section_at s i).parent) i) = Prim.hlevel props in
    λ i. record {
      in_order = order_prop x.in_order y.in_order i;
      end_most = most_prop x.end_most y.end_most i;
      on_covered = on_prop x.on_covered y.on_covered i;
      in_covered = in_prop x.in_covered y.in_covered i;
    }

pub Laid-prop : (s : Sections) (outers : List Bits) (spans : Spans) → IsProp (Laid s outers spans)
Laid-prop s outers spans x y =
    let accepted_prop : IsProp (table_refusal s ≡ none) = Prim.hlevel props in
    let few_prop : IsProp (s.count ≤ section_numbers) = Prim.hlevel props in
    let outer_prop : IsProp ((i : ℕ) → i < s.count → resources_of (get_or outers i no_bits).bits ≡ outer s i) = Prim.hlevel props in
    λ i. record {
      accepted = accepted_prop x.accepted y.accepted i;
      few = few_prop x.few y.few i;
      outer_is = outer_prop x.outer_is y.outer_is i;
      spanned = Spanned-prop s spans x.spanned y.spanned i;
    }

-- what an allowance makes of a calculation: none where the weighings exceed it
unfoldable pub spend : Weighed → ℕ → Option Tally
spend w allowance =
    if leb w.weighings allowance then Some (record { value = w.value; giver = w.giver; left = allowance - w.weighings }) else None

-- a value grows by at most a million for each weighing, and its giver is one of the sections
pub record Grown (count allowance : ℕ) (tally : Tally) : Type 0 where
  pub most : tally.value + million * tally.left ≤ million * allowance
  pub giver_there : IfSome tally.giver (λ i. i < count)

abbrev pub Fair : ℕ → ℕ → Option Tally → Type 0
Fair count allowance tally = IfSome tally (Grown count allowance)
