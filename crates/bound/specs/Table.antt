-- The table of sections: a section's outer resources (rule 12.3), and the refusals 40 to 45 in the order of rule 12.9.
-- Entries past `count` are not read. Assumes nothing.
use Rattle.std.specs.Prelude.{ℕ, zero, suc, Bool, true, false, not, ◌&&◌, List, ltb, leb, eqb, get_or, if◌then◌else◌, Some, None}
use Rattle.std.specs.Prelude as prelude
use Rattle.std.proofs.Math.Option.{Option, none}
use Rattle.laws.specs.Tests.{accepted, ◌when◌or◌, first_of, ◌or_else◌}
use Rattle.laws.specs.Loops.{all_to, sum_to, fold_to}
use Rattle.bound.specs.declared.Section.{Section}
use Rattle.bound.specs.declared.Sections.{Sections}
use Rattle.bound.specs.Sets.{task_numbers, Resources, no_resource, with}

-- how many sections there may be, and how long one
abbrev pub section_numbers : ℕ
section_numbers = 12

abbrev pub million : ℕ
million = 1000000

-- where a section stands: in none, or directly in the section of that number
abbrev pub Parent : Type 0
Parent = prelude.Option ℕ

abbrev pub no_section : Section
no_section = record { task = record { 0 = 0 }; resource = 0; length = 0; parent = None }

abbrev pub section_at : Sections → ℕ → Section
section_at s i = get_or s.section i no_section

-- a section with the first as its parent stands directly in the second
abbrev pub directly_in : Parent → Parent → Bool
directly_in None None = true
directly_in None (Some p) = false
directly_in (Some i) None = false
directly_in (Some i) (Some p) = eqb i p

-- the resources around a section with this parent, n sections outwards
unfoldable pub around : ℕ → Sections → Parent → Resources
around zero s p = no_resource
around (suc n) s None = no_resource
around (suc n) s (Some p) = with (around n s (section_at s p).parent) (section_at s p).resource

-- rule 12.3; at most 12 sections are around one, since each is an earlier one
unfoldable pub outer : Sections → ℕ → Resources
outer s i = around section_numbers s (section_at s i).parent

-- the counts of rule 12.1
abbrev pub counts_fit : Sections → Bool
counts_fit s = leb 1 s.tasks && leb s.tasks task_numbers && leb s.count section_numbers

-- the parent of rule 12.1
abbrev pub parent_fits : Sections → ℕ → Parent → Bool
parent_fits s i None = true
parent_fits s i (Some p) = ltb p i && eqb (section_at s p).task.0 (section_at s i).task.0

-- the section of rule 12.1
unfoldable pub section_fits : Sections → ℕ → Bool
section_fits s i =
    ltb (section_at s i).task.0 s.tasks && leb (section_at s i).resource 15
    && leb 1 (section_at s i).length && leb (section_at s i).length million
    && parent_fits s i (section_at s i).parent

-- a resource above the parent's: rule 12.2
abbrev pub above : Sections → ℕ → Parent → Bool
above s r None = true
above s r (Some p) = ltb (section_at s p).resource r

-- c's length where it is a direct child of i
unfoldable pub child_length : Sections → ℕ → ℕ → ℕ
child_length s i c = if directly_in (section_at s c).parent (Some i) then (section_at s c).length else 0

-- children together no longer than their parent: rule 12.2
unfoldable pub children_fit : Sections → ℕ → Bool
children_fit s i = leb (sum_to s.count (child_length s i)) (section_at s i).length

abbrev pub section_tests : Sections → ℕ → List (ℕ × Bool)
section_tests s i = 41 when not (section_fits s i) or 42 when not (above s (section_at s i).resource (section_at s i).parent) or accepted

-- section by section: what an earlier one is refused for, or else section i
unfoldable pub section_refusal : Sections → ℕ → Option ℕ → Option ℕ
section_refusal s i earlier = earlier or_else first_of (section_tests s i)

-- 40 to 43: rule 12.9
unfoldable pub table_refusal : Sections → Option ℕ
table_refusal s =
    first_of (40 when not (counts_fit s) or accepted)
    or_else fold_to s.count (section_refusal s) none
    or_else first_of (43 when not (all_to s.count (children_fit s)) or accepted)

-- 44 and 45 after these: rule 12.9
unfoldable pub refusal : Sections → ℕ → ℕ → Option ℕ
refusal s t allowance =
    table_refusal s
    or_else first_of (44 when not (ltb t s.tasks) or 45 when not (leb 1 allowance && leb allowance million) or accepted)
