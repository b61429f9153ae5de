-- The greatest of several offsets, whichever are compared first.
use Rattle.std.proofs.Common.{◌≡◌, ℕ, ◌≤◌, List, sym, ap, ◌∙◌, arith}
use Rattle.core_meaning.specs.Core.{Statement, Statements, MoreStatements}
use Rattle.core_lines.specs.Selected.{greater, highest, highest_of, shrunk_in, shrunk_of, names_after}
use Rattle.core_lines.proofs.homes.Locals.{greater_below, greater_left, greater_right}

pub greater_joined : (a b c : ℕ) → greater (greater a b) c ≡ greater a (greater b c)
greater_joined a b c =
    let x = greater (greater a b) c in let y = greater a (greater b c) in
    let ab = greater_left (greater a b) c in let ba = greater_right (greater a b) c in let a1 = greater_left a b in let b1 = greater_right a b in
    let bc = greater_right a (greater b c) in let a2 = greater_left a (greater b c) in let b2 = greater_left b c in let c2 = greater_right b c in
    let below : x ≤ y = greater_below (greater a b) c y (greater_below a b y a2 (omega (arith, bc, b2))) (omega (arith, bc, c2)) in
    let above : y ≤ x = greater_below a (greater b c) x (omega (arith, ab, a1)) (greater_below b c x (omega (arith, ab, b1)) ba) in
    omega (arith, below, above)

pub nothing_below : (a : ℕ) → greater 0 a ≡ a
nothing_below a = let r = greater_right 0 a in let b = greater_below 0 a a (omega arith) (omega arith) in omega (arith, r, b)

-- of a statement and those behind it, whose locals with homes take no bytes
pub most_more : (low most x : ℕ) (s : Statement) (rest all : Statements) (hs later : List ℕ) → all ≡ MoreStatements s rest → x ≡ highest low (shrunk_in hs s)
    → later ≡ names_after s hs → greater (greater most x) (highest_of low (shrunk_of later rest)) ≡ greater most (highest_of low (shrunk_of hs all))
most_more low most x s rest all hs later is e names =
    greater_joined most x (highest_of low (shrunk_of later rest))
    ∙ (λ k. greater most (greater (e k) (highest_of low (shrunk_of (names k) rest))))
    ∙ ap (λ ss. greater most (highest_of low (shrunk_of hs ss))) (sym is)
