-- Exchanges: words that are read and written one after the other.
use Rattle.std.proofs.Common.{◌≡◌, ◌∙◌, ◌<◌, ◌+◌, ◌-◌, ℕ, suc, Bool, true, false, refl, sym, ap, ap₂, subst, arith}
use Rattle.std.proofs.Common.{List, [], ◌∷◌, length, Some, None, if◌then◌else◌}
use Rattle.std.specs.Prelude.{bytes_eq, is_some}
use Rattle.std.proofs.lemmas.Bool.{false≢true}
use Rattle.core_meaning.specs.Core.{Distance, Do, Load, Statement, Store}
use Rattle.source_meaning.specs.Shapes.{Layout, Shape, UnionShape, parts_of}
use Rattle.source_meaning.specs.Steps.{World}
use Rattle.source_lowering.specs.Layouts.{cell_pieces, has_fat, union_pieces}
use Rattle.source_lowering.specs.Lowerable.{IsExchanged}
use Rattle.source_lowering.specs.Members.{part_at}
use Rattle.source_lowering.specs.Programs.{Side, exchange_code, union_exchange, value_exchange, words_read, words_written}
use Rattle.lower_checks.specs.Unions.{Union, cell_by, cell_words, first_union, union_by, union_with}
use Rattle.lower_checks.specs.Writing.{IsEmitted, IsEmitting}
use Rattle.lower_checks.specs.declared.body.Body.{Body}
use Rattle.lower_checks.proofs.UnionCells.{has_union}
use Rattle.lower_checks.proofs.Writing.{emitting_more}

-- ---- words

read_next : (words word t p : ℕ) → word < words
    → words_read (words - word) word (t + word) p ≡
    Do (Load (t + word) p (part_at 0 0 word)) ∷ words_read (words - (word + 1)) (word + 1) (t + (word + 1)) p
read_next words word t p within =
    let count : words - word ≡ suc (words - (word + 1)) = omega (arith, within) in
    let next : suc word ≡ word + 1 = omega arith in
    let at : suc (t + word) ≡ t + (word + 1) = omega arith in
    ap (λ (n : ℕ). words_read n word (t + word) p) count
    ∙ ap₂ (λ (k u : ℕ). Do (Load (t + word) p (part_at 0 0 word)) ∷ words_read (words - (word + 1)) k u p) next at

pub read_more :
    (a b z : Body) (all : List Statement) (words word t u p : ℕ) (d : Distance) → word < words → u ≡ t + word → d ≡ part_at 0 0 word
    → IsEmitting a b all (words_read (words - word) word (t + word) p) → IsEmitted b z (Do (Load u p d) ∷ [])
    → IsEmitting a z all (words_read (words - (word + 1)) (word + 1) (t + (word + 1)) p)
read_more a b z all words word t u p d within at part left done =
    let here = Do (Load (t + word) p (part_at 0 0 word)) ∷ [] in
    let same : Do (Load u p d) ∷ [] ≡ here = ap₂ (λ (v : ℕ) (x : Distance). Do (Load v p x) ∷ []) at part in
    emitting_more a b z all here (words_read (words - (word + 1)) (word + 1) (t + (word + 1)) p)
    (subst (IsEmitting a b all) (read_next words word t p within) left) (subst (IsEmitted b z) same done)

written_next : (words word p t : ℕ) → word < words
    → words_written (words - word) word p (t + word) ≡
    Do (Store p (part_at 0 0 word) (t + word)) ∷ words_written (words - (word + 1)) (word + 1) p (t + (word + 1))
written_next words word p t within =
    let count : words - word ≡ suc (words - (word + 1)) = omega (arith, within) in
    let next : suc word ≡ word + 1 = omega arith in
    let at : suc (t + word) ≡ t + (word + 1) = omega arith in
    ap (λ (n : ℕ). words_written n word p (t + word)) count
    ∙ ap₂ (λ (k u : ℕ). Do (Store p (part_at 0 0 word) (t + word)) ∷ words_written (words - (word + 1)) k p u) next at

pub written_more :
    (a b z : Body) (all : List Statement) (words word p t u : ℕ) (d : Distance) → word < words → u ≡ t + word → d ≡ part_at 0 0 word
    → IsEmitting a b all (words_written (words - word) word p (t + word)) → IsEmitted b z (Do (Store p d u) ∷ [])
    → IsEmitting a z all (words_written (words - (word + 1)) (word + 1) p (t + (word + 1)))
written_more a b z all words word p t u d within at part left done =
    let here = Do (Store p (part_at 0 0 word) (t + word)) ∷ [] in
    let same : Do (Store p d u) ∷ [] ≡ here = ap₂ (λ (v : ℕ) (x : Distance). Do (Store p x v) ∷ []) at part in
    emitting_more a b z all here (words_written (words - (word + 1)) (word + 1) p (t + (word + 1)))
    (subst (IsEmitting a b all) (written_next words word p t within) left) (subst (IsEmitted b z) same done)

-- ---- by shape

words_with : (fat : Bool) → cell_words (cell_by fat) ≡ length (union_pieces fat)
words_with true = refl
words_with false = refl

words_found :
    (unions : List Layout) (tag : List ℕ) (u : Union) → first_union unions tag ≡ Some u → cell_words u.cell ≡ length (cell_pieces unions (UnionShape tag))
words_found [] tag u is = absurd cc is
words_found (l ∷ ls) tag u is = by (bytes_eq l.tag tag) refl is (λ e. words_found ls tag u e)
  where
    by : (own : Bool) → bytes_eq l.tag tag ≡ own → (if own then Some (union_with l.parts) else first_union ls tag) ≡ Some u
        → (first_union ls tag ≡ Some u → cell_words u.cell ≡ length (cell_pieces ls (UnionShape tag)))
        → cell_words u.cell ≡ length (cell_pieces (l ∷ ls) (UnionShape tag))
    by true own is more =
        let parts : parts_of (l ∷ ls) tag ≡ l.parts = ap (λ b. if b then l.parts else parts_of ls tag) own in
        let same : union_with l.parts ≡ u = cc is in
        ap (λ (v : Union). cell_words v.cell) (sym same) ∙ words_with (has_fat l.parts)
        ∙ ap (λ ps. length (union_pieces (has_fat ps))) (sym parts)
    by false own is more =
        let parts : parts_of (l ∷ ls) tag ≡ parts_of ls tag = ap (λ b. if b then l.parts else parts_of ls tag) own in
        more is ∙ ap (λ ps. length (union_pieces (has_fat ps))) (sym parts)

pub union_exchanged : (w : World) (x y : Side) (s : Shape) (u : Union) (d : ℕ) → union_by w.unions s ≡ Some u
    → union_exchange (cell_words u.cell) d ≡ exchange_code w x y s d
union_exchanged w x y (UnionShape tag) u d is = ap (λ (n : ℕ). union_exchange n d) (words_found w.unions tag u is)
union_exchanged w x y s u d is = absurd cc is

pub value_exchanged : (w : World) (x y : Side) (s : Shape) (d : ℕ) → union_by w.unions s ≡ None → IsExchanged w.unions s
    → value_exchange x y s d ≡ exchange_code w x y s d
value_exchanged w x y (UnionShape tag) d none has = absurd (false≢true (ap is_some (sym none) ∙ has_union w.unions tag ∙ has))
value_exchanged w x y s d none has = refl
