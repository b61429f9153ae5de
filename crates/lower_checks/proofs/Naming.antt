-- The innermost local of a name, by those that are visible outside of blocks of elements.
use Rattle.std.proofs.Common.{◌≡◌, ◌∙◌, ◌+◌, ◌<◌, ℕ, suc, List, drop, get_or, length, map, false, arith, refl, sym, ap, if◌then◌else◌}
use Rattle.std.proofs.lemmas.List.{drop_more}
use Rattle.std.specs.Prelude.{Option, Some, None, bytes_eq, option_map}
use Rattle.source_meaning.specs.Shapes.{UnsignedShape}
use Rattle.source_lowering.specs.Lowered.{Home, InBlock, Named, element_names, local_named}
use Rattle.source_lowering.specs.Naming.{further_out, named_here, one_out}
use Rattle.lower_checks.specs.Numbers.{names_within, numbers_in}
use Rattle.lower_checks.specs.declared.numbers.Number.{Number}
use Rattle.lower_checks.proofs.Linking.{named_outward}

-- so many blocks further out
abbrev pub home_behind : ℕ → Home → Home
home_behind k (InBlock out index) = InBlock (out + k) index

abbrev pub named_behind : ℕ → Named → Named
named_behind k l = record { name = l.name; shape = l.shape; home = home_behind k l.home }

home_further : (k : ℕ) (h : Home) → home_behind k (further_out h) ≡ home_behind (k + 1) h
home_further k (InBlock out index) = let same : suc out + k ≡ out + (k + 1) = omega arith in ap (λ n. InBlock n index) same

found_further : (k : ℕ) (found : Option Named) → option_map (named_behind k) (option_map one_out found) ≡ option_map (named_behind (k + 1)) found
found_further k None = refl
found_further k (Some l) = ap (λ h. Some (record { name = l.name; shape = l.shape; home = h })) (home_further k l.home)

-- what has another name is outside of one block more
pub found_outside : (k : ℕ) (number name : List ℕ) (names : List Named) → bytes_eq number name ≡ false
    → option_map (named_behind (k + 1)) (local_named names name) ≡ option_map (named_behind k) (local_named (element_names number names) name)
found_outside k number name names other =
    sym (found_further k (local_named names name)) ∙ ap (option_map (named_behind k)) (sym (named_outward names name))
    ∙ sym (ap (λ own. option_map (named_behind k) (if own then Some (named_here number UnsignedShape 0) else local_named (map one_out names) name)) other)

-- the numbers that are left begin with one of another name
pub found_more : (numbers : List Number) (k : ℕ) (n : Number) (name : List ℕ) (names : List Named) → k < length numbers
    → bytes_eq (get_or numbers k n).name.now name ≡ false
    → option_map (named_behind (k + 1)) (local_named (names_within (numbers_in (drop (k + 1) numbers)) names) name)
    ≡ option_map (named_behind k) (local_named (names_within (numbers_in (drop k numbers)) names) name)
found_more numbers k n name names within other =
    found_outside k (get_or numbers k n).name.now name (names_within (numbers_in (drop (k + 1) numbers)) names) other
    ∙ ap (λ ns. option_map (named_behind k) (local_named (names_within (numbers_in ns) names) name)) (sym (drop_more numbers k n within))
