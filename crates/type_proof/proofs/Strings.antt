-- The strings of a program: each literal is found by its place, and its bytes are chars of the heap.
use Rattle.std.proofs.Common.{◌≡◌, ℕ, suc, ◌+◌, Bool, true, false, inl, inr, Some, None, List, [], ◌∷◌, ◌++◌, refl, sym, ◌∙◌, ap, subst}
use Rattle.std.specs.Prelude.{length, nat_eq, is_some, bytes_eq, if◌then◌else◌}
use Rattle.std.proofs.lemmas.Bool.{eq-eqb}
use Rattle.std.proofs.lemmas.Option.{same_Some}
use Rattle.cyc_tree.specs.Tree as tree
use Rattle.cyc_tree.specs.Tree.{Item}
use Rattle.source_meaning.specs.Memory.{Region, Spot, Span, Scalar, Wide, Memory}
use Rattle.source_meaning.specs.Steps.{Routine}
use Rattle.source_meaning.specs.Places.{own_string, span_at, string_at}
use Rattle.source_meaning.specs.Calls.{function_of}
use Rattle.source_meaning.specs.Strings.{Literal, initial_strings, items_strings, program_strings}
use Rattle.source_meaning.specs.Programs.{heap_spot, functions_of, routine_of, strings_from}
use Rattle.source_typing.specs.Types.{Char, Fat}
use Rattle.type_proof.specs.Flat.{Tables}
use Rattle.type_proof.proofs.invariant.Births.{known_live}
use Rattle.type_proof.proofs.invariant.Invariant.{RunType, heap, Owner, Reached, Ghost, AllLaid, HasType, Spans, Inv}
use Rattle.type_proof.proofs.invariant.Values.{all_laid_kept}

-- ---- places

-- each of these literals is found by its place
abbrev pub AreFound : List (ℕ × Scalar) → List Literal → Type 0
AreFound strings [] = Unit {0}
AreFound strings (s ∷ ss) = (is_some (string_at strings s.0) ≡ true) × AreFound strings ss

pub found_parts : (strings : List (ℕ × Scalar)) (ss others : List Literal) → AreFound strings (ss ++ others) → AreFound strings ss × AreFound strings others
found_parts strings [] others h = (tt, h)
found_parts strings (s ∷ ss) others h = let r : AreFound strings ss × AreFound strings others = found_parts strings ss others h.1 in ((h.0, r.0), r.1)

found_more : (x : ℕ × Scalar) (strings : List (ℕ × Scalar)) (ss : List Literal) → AreFound strings ss → AreFound (x ∷ strings) ss
found_more x strings [] h = tt
found_more x strings (s ∷ ss) h = (by (nat_eq x.0 s.0), found_more x strings ss h.1)
  where
    by : (c : Bool) → is_some (if c then Some x.1 else string_at strings s.0) ≡ true
    by true = refl
    by false = h.0

-- so are those of a program, which are numbered from k on
pub all_found : (ss : List Literal) (k : ℕ) → AreFound (strings_from ss k) ss
all_found [] k = tt
all_found (s ∷ ss) k = (
  ap (λ (c : Bool). is_some (if c then Some (span_at (length s.1 + 1) (heap_spot k)) else string_at (strings_from ss (suc k)) s.0)) (eq-eqb s.0 s.0 refl),
  found_more (s.0, span_at (length s.1 + 1) (heap_spot k)) (strings_from ss (suc k)) ss (all_found ss (suc k)),
)

-- those of a function's body are some of the program's
pub routine_found : (strings : List (ℕ × Scalar)) (x : List ℕ) (f : Routine) (items : List Item) → AreFound strings (program_strings items)
    → function_of (functions_of items) x ≡ Some f → AreFound strings (items_strings f.body)
routine_found strings x f [] h e = absurd cc
routine_found strings x f (tree.GlobalItem g ∷ items) h e =
    routine_found strings x f items (found_parts strings (initial_strings g.initial) (program_strings items) h).1 e
routine_found strings x f (tree.StructItem s ∷ items) h e = routine_found strings x f items h e
routine_found strings x f (tree.UnionItem s ∷ items) h e = routine_found strings x f items h e
routine_found strings x f (tree.FunctionItem q ∷ items) h e =
    let both : AreFound strings (items_strings q.body) × AreFound strings (program_strings items) =
    found_parts strings (items_strings q.body) (program_strings items) h in
    by both.0 (routine_found strings x f items both.1) (bytes_eq q.name.text x) e
  where
    by : AreFound strings (items_strings q.body) → (function_of (functions_of items) x ≡ Some f → AreFound strings (items_strings f.body)) → (c : Bool)
        → (if c then Some (routine_of q) else function_of (functions_of items) x) ≡ Some f → AreFound strings (items_strings f.body)
    by here others true e = subst (λ (r : Routine). AreFound strings (items_strings r.body)) (same_Some (routine_of q) f e) here
    by here others false e = others e

-- ---- cells

-- a string's value, and its chars
pub record StringLaid (w : Ghost) (v : Scalar) : Type 0 where
  pub span : Span
  pub is : v ≡ Wide (Some span)
  pub in_heap : span.first.region ≡ heap
  pub laid : AllLaid w span.first span.count (Char ∷ [])

-- all strings of a program have theirs
abbrev pub StringsLaid : Ghost → List (ℕ × Scalar) → Type 0
StringsLaid w strings = (at : ℕ) (v : Scalar) → string_at strings at ≡ Some v → StringLaid w v

pub strings_kept : (w w' : Ghost) (strings : List (ℕ × Scalar))
    → ((s : Spot) (t : RunType) → w.types s ≡ Some (Reached t) → w'.types s ≡ Some (Reached t)) → StringsLaid w strings → StringsLaid w' strings
strings_kept w w' strings keep h = λ at v e.
    let l : StringLaid w v = h at v e in
    record { span = l.span; is = l.is; in_heap = l.in_heap; laid = all_laid_kept w w' l.span.first l.span.count (Char ∷ []) keep l.laid }

-- a string's value is a fat pointer to chars of the heap
pub string_spans : (d : Tables) (w : Ghost) (m : Memory) (v : Scalar) → Inv d w m → StringLaid w v → Spans d w v heap Char
string_spans d w m v i l = record {
  span = l.span;
  is = l.is;
  reaches = λ c less. record {
    typed = l.laid c less;
    above = ap (λ (r : Region). w.above r heap) l.in_heap ∙ i.itself heap (known_live d w m heap i i.heap_lives);
  };
}

-- where another string is at a literal's place, NULL is, unless it has as many elements
pub own_string_typed : (d : Tables) (w : Ghost) (m : Memory) (by : Owner) (count : ℕ) (v : Scalar) → Inv d w m → StringLaid w v
    → HasType d w by (own_string count v) (Fat heap Char)
own_string_typed d w m by count v i l =
    subst (λ (u : Scalar). HasType d w by (own_string count u) (Fat heap Char)) (sym l.is) (typed (nat_eq l.span.count count))
  where
    typed : (same : Bool) → HasType d w by (Wide (if same then Some l.span else None)) (Fat heap Char)
    typed true = inr (string_spans d w m (Wide (Some l.span)) i (record { span = l.span; is = refl; in_heap = l.in_heap; laid = l.laid }))
    typed false = inl refl
