use Rattle.std.proofs.Common.{◌≡◌, ℕ, Bool, true, false, nat_eq, bit_and, List, [], ◌∷◌, ◌∙◌, ap, sym, arith}
use Rattle.std.specs.Prelude.{◌&&◌, not, slice_index_or}
use Rattle.std.specs.List.{list_all}
use Rattle.std.proofs.lemmas.Bool.{and_parts, not-true}
use Rattle.std.proofs.lemmas.Bool.Decides.{nat_tests}
use Rattle.std.proofs.lemmas.List.Sums.{AllPass-from_list_all}
use Rattle.std.proofs.lemmas.Nat.{and_assoc, and_comm}
use Rattle.rv32_isa.specs.Table.{Row, Matches, AreApart, IsApart}

-- whether two rows differ in a bit that both look at
abbrev are_apart : Row → Row → Bool
are_apart r s = not (nat_eq (bit_and r.value s.mask) (bit_and s.value r.mask))

abbrev pub is_apart : List Row → Bool
is_apart [] = true
is_apart (r ∷ rs) = list_all (are_apart r) rs && is_apart rs

-- what both rows look at in a word of both
shared_bits : (w : ℕ) (r s : Row) → Matches w r → Matches w s → bit_and r.value s.mask ≡ bit_and s.value r.mask
shared_bits w r s a b =
    ap (λ v. bit_and v s.mask) (sym a) ∙ and_assoc s.mask w r.mask ∙ ap (bit_and w) (and_comm r.mask s.mask) ∙ sym (and_assoc r.mask w s.mask)
    ∙ ap (λ v. bit_and v r.mask) b

apart : (r s : Row) → are_apart r s ≡ true → AreApart r s
apart r s test w a b =
    let differ : nat_eq (bit_and r.value s.mask) (bit_and s.value r.mask) ≡ false = not-true _ test in
    let same : bit_and r.value s.mask ≡ bit_and s.value r.mask = shared_bits w r s a b in
    grind (arith, nat_tests)

pub apart_by_test : (rs : List Row) → is_apart rs ≡ true → IsApart rs
unfolding IsApart
apart_by_test [] test = tt
apart_by_test (r ∷ rs) test =
    let parts = and_parts (list_all (are_apart r) rs) (is_apart rs) test in
    (λ k d h. apart r (slice_index_or rs k d) (AllPass-from_list_all (are_apart r) rs parts.0 k d h), apart_by_test rs parts.1)
