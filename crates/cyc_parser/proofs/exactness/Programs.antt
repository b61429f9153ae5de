-- The readers of functions, items and programs are exact.
use Rattle.std.proofs.Common.{◌≡◌, ◌≤◌, ℕ, zero, suc, max, Bool, true, false, List, [], ◌∷◌, length, refl, sym, ap, subst, ◌∙◌, Ok, Err, nat_le, cond, arith}
use Rattle.std.proofs.Common.{leb-true}
use Rattle.cyc_tree.specs.Tree.{Item, StructItem, UnionItem, GlobalItem, FunctionItem}
use Rattle.cyc_tree.proofs.PartNesting.{item_nesting, program_nesting}
use Rattle.cyc_parser.specs.declared.fault.ParseFault.TheVariants.{Memory}
use Rattle.source_grammar.specs.Phrases.{Tokens, Each}
use Rattle.source_grammar.specs.Grammar.{IsItem}
use Rattle.cyc_parser.specs.Tests.{is_any}
use Rattle.cyc_parser.specs.Reader.{Outcome, ◌>>=◌, next_is, one_more, many_in, many}
use Rattle.cyc_parser.specs.ReadPrograms.{item, program}
use Rattle.cyc_parser.specs.Exact.{Exact, Anything, ends, always, Then, Rows, Within}
use Rattle.cyc_parser.proofs.Exact.{many_exact, exact_as}
use Rattle.cyc_parser.proofs.exactness.Composed.{begins_with, then_exact, Made, image_exact}
use Rattle.cyc_parser.proofs.exactness.Types.{type_first}
use Rattle.cyc_parser.proofs.exactness.Typed.{within_none}
pub use Rattle.cyc_parser.proofs.exactness.Typed.{IsItemAt}
pub use Rattle.cyc_parser.proofs.exactness.ProgramItems.{item_exact}

-- one item at least
abbrev pub AreSomeItems : List Item → Tokens → Tokens → Type 0
AreSomeItems [] from to = ⊥
AreSomeItems (i ∷ is) from to = Each IsItem (i ∷ is) from to

abbrev pub AreItemsAt : ℕ → Bool → List Item → Tokens → Tokens → Type 0
AreItemsAt most b is from to = AreSomeItems is from to × Within b most (program_nesting is)

pub item_begins : (most : ℕ) (b : Bool) (i : Item) (from to : Tokens) → IsItemAt most b i from to → next_is is_any from ≡ true
item_begins most b (StructItem s) from to w = begins_with is_any from _ _ w.0.1.1 refl
item_begins most b (UnionItem u) from to w = begins_with is_any from _ _ w.0.2.1 refl
item_begins most b (GlobalItem g) from to w = let f = type_first g.of from w.0.0 w.0.3 in begins_with is_any from f.0 f.1 f.2 refl
item_begins most b (FunctionItem f) from to w = let k = type_first f.result from w.0.0 w.0.2 in begins_with is_any from k.0 k.1 k.2 refl

-- ---- nesting

within_max : (most : ℕ) (b : Bool) (m n : ℕ) → Within b most m → Within b most n → Within b most (max m n)
within_max most true m n h k = omega arith
within_max most false m n h k = tt

within_left : (most : ℕ) (b : Bool) (m n : ℕ) → Within b most (max m n) → Within b most m
within_left most true m n h = omega arith
within_left most false m n h = tt

within_right : (most : ℕ) (b : Bool) (m n : ℕ) → Within b most (max m n) → Within b most n
within_right most true m n h = omega arith
within_right most false m n h = tt

rows_into : (most : ℕ) (b : Bool) (is : List Item) (from to : Tokens) → Rows (IsItemAt most) b is from to
    → Each IsItem is from to × Within b most (program_nesting is)
rows_into most b [] from to w = (w, within_none most b)
rows_into most b (i ∷ is) from to w =
    let r = rows_into most b is w.0 to w.2 in ((w.0, w.1.0, r.0), within_max most b (item_nesting i) (program_nesting is) w.1.1 r.1)

pub rows_back : (most : ℕ) (b : Bool) (is : List Item) (from to : Tokens) → Each IsItem is from to → Within b most (program_nesting is)
    → Rows (IsItemAt most) b is from to
rows_back most b [] from to w h = w
rows_back most b (i ∷ is) from to w h =
    let others = rows_back most b is w.0 to w.2 (within_right most b (item_nesting i) (program_nesting is) h) in
    (w.0, (w.1, within_left most b (item_nesting i) (program_nesting is) h), others)

-- ---- programs

abbrev ProgramRead : ℕ → Bool → List Item → Tokens → Tokens → Type 0
ProgramRead most = Then (IsItemAt most) (λ i. Made (λ is. i ∷ is) (Rows (IsItemAt most)))

program_into : (most : ℕ) (b : Bool) (is : List Item) (from to : Tokens) → ProgramRead most b is from to → AreItemsAt most b is from to
program_into most b is from to w =
    let r = rows_into most b w.3.0 w.1 to w.3.2 in
    subst (λ (is : List Item). AreItemsAt most b is from to) (sym w.3.1)
    ((w.1, w.2.0, r.0), within_max most b (item_nesting w.0) (program_nesting w.3.0) w.2.1 r.1)

program_back : (most : ℕ) (b : Bool) (is : List Item) (from to : Tokens) → AreItemsAt most b is from to → ProgramRead most b is from to
program_back most b [] from to w = absurd w.0
program_back most b (i ∷ is) from to w = (
  i,
  w.0.0,
  (w.0.1, within_left most b (item_nesting i) (program_nesting is) w.1),
  (is, refl, rows_back most b is w.0.0 to w.0.2 (within_right most b (item_nesting i) (program_nesting is) w.1)),
)

pub program_exact : (most : ℕ) → Exact Anything (AreItemsAt most) (always is_any) (program most)
unfolding program
program_exact most =
    exact_as Anything (ProgramRead most) (always is_any) _
    (then_exact (IsItemAt most) (item most) (item_exact most) (λ i. Made (λ is. i ∷ is) (Rows (IsItemAt most))) (always is_any) _ (λ i.
    image_exact (Rows (IsItemAt most)) is_any (many is_any (item most))
    (many_exact is_any (IsItemAt most) ends (item most) (item_exact most) (item_begins most) (λ i k h. refl) (λ k. false) (λ i k h. h))
    (λ is. i ∷ is)))
    (AreItemsAt most) (program_into most) (program_back most)

-- ---- a program is read up to the end

bind_ok : {A B : Type 0} (o : Outcome A) (f : A × Tokens → Outcome B) (y : B × Tokens) → (o >>= f) ≡ Ok y
    → (x : A × Tokens) × (o ≡ Ok x) × (f x ≡ Ok y)
bind_ok (Ok x) f y h = (x, refl, h)
bind_ok (Err e) f y h = absurd cc

abbrev left : {A : Type 0} → Outcome A → Tokens
left (Ok x) = x.1
left (Err e) = []

-- a list goes on where its first phrase took a token
one_more_ok : {A : Type 0} (ts : Tokens) (x : A × Tokens) (others : Outcome (List A)) (xs : List A) (rest : Tokens)
    → one_more ts x others ≡ Ok (xs, rest)
    → (suc (length x.1) ≤ length ts) × (y : List A × Tokens) × (others ≡ Ok y) × (y.1 ≡ rest)
one_more_ok ts x others xs rest h = go (nat_le (suc (length x.1)) (length ts)) refl h
  where
    go : (b : Bool) → nat_le (suc (length x.1)) (length ts) ≡ b → cond b (others >>= λ y. Ok (x.0 ∷ y.0, y.1)) (Err Memory) ≡ Ok (xs, rest)
        → (suc (length x.1) ≤ length ts) × (y : List _ × Tokens) × (others ≡ Ok y) × (y.1 ≡ rest)
    go true e k = let y = bind_ok others (λ y. Ok (x.0 ∷ y.0, y.1)) (xs, rest) k in (leb-true _ _ e, y.0, y.1, ap left y.2)
    go false e k = absurd cc

many_ends : {A : Type 0} (p : Tokens → Outcome A) (n : ℕ) (ts : Tokens) (xs : List A) (rest : Tokens) → length ts ≤ n
    → many_in n is_any p ts ≡ Ok (xs, rest) → rest ≡ []
many_ends p zero [] xs rest h k = sym (ap left k)
many_ends p zero (t ∷ ts) xs rest h k = absurd (omega (arith, h))
many_ends p (suc n) [] xs rest h k = sym (ap left k)
many_ends p (suc n) (t ∷ ts) xs rest h k =
    let x = bind_ok (p (t ∷ ts)) (λ x. one_more (t ∷ ts) x (many_in n is_any p x.1)) (xs, rest) k in
    let y = one_more_ok (t ∷ ts) x.0 (many_in n is_any p x.0.1) xs rest x.2 in
    sym y.3 ∙ many_ends p n x.0.1 y.1.0 y.1.1 (omega (arith, h, y.0)) y.2

-- a program is read up to the end
pub program_ends : (most : ℕ) (ts : Tokens) (is : List Item) (rest : Tokens) → program most ts ≡ Ok (is, rest) → rest ≡ []
unfolding program many
program_ends most ts is rest read =
    let i = bind_ok (item most ts) (λ x. many is_any (item most) x.1 >>= λ y. Ok (x.0 ∷ y.0, y.1)) (is, rest) read in
    let others = bind_ok (many is_any (item most) i.0.1) (λ y. Ok (i.0.0 ∷ y.0, y.1)) (is, rest) i.2 in
    sym (ap left others.2) ∙ many_ends (item most) (length i.0.1) i.0.1 others.0.0 others.0.1 (omega arith) others.1
