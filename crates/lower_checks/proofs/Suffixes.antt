-- Suffixes by what the code does: the indices first, then what stands on the left behind them, and from there on along the suffixes.
use Rattle.std.proofs.Common.{◌≡◌, ◌∙◌, ℕ, zero, suc, ◌+◌, ◌-◌, refl, arith, sym, ap, List, [], ◌∷◌, ◌++◌, length, map, drop, append_assoc}
use Rattle.std.proofs.lemmas.List.{append-nil}
use Rattle.cyc_tree.specs.Tree.{Expression, Suffixes, NoSuffixes, Index, Dot, Arrow}
use Rattle.cyc_tree.specs.View.{OneSuffix, suffix_tree, suffixes_of}
use Rattle.cyc_tree.specs.declared.expression.Suffix as code
use Rattle.source_meaning.specs.Shapes.{Shape, pointee}
use Rattle.source_meaning.specs.Steps.{World}
use Rattle.source_lowering.specs.Lowered.{Left, Named, expression_code, left_of, loads_code, offset_code, place_code, pointer_to, reach_code, static_shape}
use Rattle.source_lowering.specs.Lowered.{store_to, stores_code, suffix_values, suffixed_code, suffixed_shape}
use Rattle.source_lowering.specs.Members.{subscript_code}
use Rattle.source_lowering.specs.Lowerable.{TakesIndices, TakesSuffixes}
use Rattle.core_meaning.specs.Core.{Statement}
use Rattle.lower_checks.specs.Reaching.{IsLeftAt, Place, first_code, further_code, further_place, indices_code, indices_in, left_by, member_place}
use Rattle.lower_checks.specs.Reaching.{place_at_once}
use Rattle.lower_checks.proofs.Lists.{then_of}

-- a place, and what reads it
abbrev pub left_at : Place → (ℕ → List Statement) → Left
left_at p pointer = record {
  shape = p.shape;
  value = λ d. pointer d ++ loads_code p.shape d p.cells p.bytes;
  pointer = pointer;
  cells = p.cells;
  bytes = p.bytes;
}

-- ---- lists

-- a last part goes to those before it, and two to those behind it
regrouped : {A : Type 0} (a b c d e f : List A) → a ++ ((b ++ ((c ++ d) ++ e)) ++ f) ≡ (a ++ b) ++ (c ++ (d ++ (e ++ f)))
regrouped a b c d e f =
    ap (λ x. a ++ x) (append_assoc b ((c ++ d) ++ e) f ∙ ap (λ x. b ++ x) (append_assoc (c ++ d) e f ∙ append_assoc c d (e ++ f)))
    ∙ sym (append_assoc a b (c ++ (d ++ (e ++ f))))

-- how many there are
pub indices_count : (one : OneSuffix) (rest : List OneSuffix)
    → indices_in (suffixes_of (one ∷ rest)) ≡ indices_in (suffixes_of rest) + indices_in (suffixes_of (one ∷ []))
indices_count (OneSuffix.Index index) rest = omega arith
indices_count (OneSuffix.Dot f) rest = omega arith
indices_count (OneSuffix.Arrow f) rest = omega arith

module _ (w : World) (names : List Named) where
  -- what is reached is a place that is read like that
  pub leads_to : (suffixes : Suffixes) (p : Place) (pointer : ℕ → List Statement) (own : ℕ)
      → suffixed_code w names suffixes (left_at p pointer) own
      ≡ left_at (further_place w suffixes p) (suffixed_code w names suffixes (left_at p pointer) own).pointer
  leads_to NoSuffixes p pointer own = refl
  leads_to (Index index others) p pointer own =
      let first = own + length (suffix_values w names others) in
      leads_to others (place_at_once (pointee p.shape))
      (λ d. expression_code w names index d first ++
      ((pointer (d + 1) ++ loads_code p.shape (d + 1) p.cells p.bytes) ++ subscript_code w p.shape d)) own
  leads_to (Dot f others) p pointer own = leads_to others (member_place w p f.text) pointer own
  leads_to (Arrow f others) p pointer own =
      leads_to others (member_place w (place_at_once (pointee p.shape)) f.text)
      (λ d. (pointer d ++ loads_code p.shape d p.cells p.bytes) ++ reach_code w p.shape d) own

  -- the indices come first, then the pointer behind them
  pub pointer_is : (suffixes : Suffixes) (p : Place) (pointer : ℕ → List Statement) (own d : ℕ)
      → (suffixed_code w names suffixes (left_at p pointer) own).pointer d
      ≡ indices_code w names suffixes d own ++ (pointer (d + indices_in suffixes) ++ further_code w suffixes p (d + indices_in suffixes))
  pointer_is NoSuffixes p pointer own d =
      let same : d ≡ d + 0 = omega arith in
      ap pointer same ∙ sym (append-nil (pointer (d + 0)))
  pointer_is (Index index others) p pointer own d =
      let first = own + length (suffix_values w names others) in
      let m = indices_in others in
      let to = pointee p.shape in
      let i = indices_code w names others d own in
      let e = expression_code w names index (d + m) first in
      let loads : ℕ → List Statement = λ t. loads_code p.shape t p.cells p.bytes in
      let rest : ℕ → List Statement = λ t. subscript_code w p.shape t ++ further_code w others (place_at_once to) t in
      let up : d + m + 1 ≡ d + suc m = omega arith in
      let down : d + m ≡ d + suc m - 1 = omega arith in
      pointer_is others (place_at_once to)
      (λ t. expression_code w names index t first ++ ((pointer (t + 1) ++ loads (t + 1)) ++ subscript_code w p.shape t)) own d
      ∙ regrouped i e (pointer (d + m + 1)) (loads (d + m + 1)) (subscript_code w p.shape (d + m)) (further_code w others (place_at_once to) (d + m))
      ∙ ap (λ t. (i ++ e) ++ (pointer t ++ (loads t ++ rest (d + m)))) up
      ∙ ap (λ t. (i ++ e) ++ (pointer (d + suc m) ++ (loads (d + suc m) ++ rest t))) down
  pointer_is (Dot f others) p pointer own d = pointer_is others (member_place w p f.text) pointer own d
  pointer_is (Arrow f others) p pointer own d =
      let n = d + indices_in others in
      let loads = loads_code p.shape n p.cells p.bytes in
      let reach = reach_code w p.shape n in
      let rest = further_code w others (member_place w (place_at_once (pointee p.shape)) f.text) n in
      pointer_is others (member_place w (place_at_once (pointee p.shape)) f.text)
      (λ t. (pointer t ++ loads_code p.shape t p.cells p.bytes) ++ reach_code w p.shape t) own d
      ∙ ap (λ x. indices_code w names others d own ++ x)
      (append_assoc (pointer n ++ loads) reach rest ∙ append_assoc (pointer n) loads (reach ++ rest))

  -- ---- the first suffix is the last one to be evaluated

  pub indices_behind : (one : OneSuffix) (rest : List OneSuffix) (d own : ℕ)
      → indices_code w names (suffixes_of (one ∷ rest)) d own
      ≡ indices_code w names (suffixes_of rest) d own ++
      indices_code w names (suffixes_of (one ∷ [])) (d + indices_in (suffixes_of rest)) (own + length (suffix_values w names (suffixes_of rest)))
  indices_behind (OneSuffix.Index index) rest d own =
      let i = indices_code w names (suffixes_of rest) d own in
      let n = d + indices_in (suffixes_of rest) in
      let number = own + length (suffix_values w names (suffixes_of rest)) in
      let n_is : n ≡ n + 0 = omega arith in
      let number_is : number ≡ number + 0 = omega arith in
      ap (λ x. i ++ expression_code w names index x number) n_is ∙ ap (λ x. i ++ expression_code w names index (n + 0) x) number_is
  indices_behind (OneSuffix.Dot f) rest d own = sym (append-nil (indices_code w names (suffixes_of rest) d own))
  indices_behind (OneSuffix.Arrow f) rest d own = sym (append-nil (indices_code w names (suffixes_of rest) d own))

  pub values_behind : (one : OneSuffix) (rest : List OneSuffix)
      → suffix_values w names (suffixes_of (one ∷ rest)) ≡ suffix_values w names (suffixes_of rest) ++ suffix_values w names (suffixes_of (one ∷ []))
  values_behind (OneSuffix.Index index) rest = refl
  values_behind (OneSuffix.Dot f) rest = sym (append-nil (suffix_values w names (suffixes_of rest)))
  values_behind (OneSuffix.Arrow f) rest = sym (append-nil (suffix_values w names (suffixes_of rest)))

  pub each_taken : (one : OneSuffix) (rest : List OneSuffix) → TakesIndices w names (suffixes_of (one ∷ rest))
      → TakesIndices w names (suffixes_of (one ∷ [])) × TakesIndices w names (suffixes_of rest)
  each_taken (OneSuffix.Index index) rest h = ((h.0, tt), h.1)
  each_taken (OneSuffix.Dot f) rest h = (tt, h)
  each_taken (OneSuffix.Arrow f) rest h = (tt, h)

  -- those from one on are taken
  pub further_taken : (ss : List code.Suffix) (n : ℕ) → TakesIndices w names (suffixes_of (map suffix_tree ss))
      → TakesIndices w names (suffixes_of (map suffix_tree (drop n ss)))
  further_taken ss zero h = h
  further_taken [] (suc n) h = h
  further_taken (s ∷ ss) (suc n) h = further_taken ss n (each_taken (suffix_tree s) (map suffix_tree ss) h).1

  -- ---- from what is on the left of the first suffix

  module _ (s : Shape) (value pointer : ℕ → List Statement) (own : ℕ) where
    pub begun_pointer : (one : OneSuffix) (rest : List OneSuffix) (d : ℕ)
        → (suffixed_code w names (suffixes_of (one ∷ rest)) (left_of s value pointer) own).pointer d
        ≡ indices_code w names (suffixes_of (one ∷ rest)) d own ++
        (first_code w (suffixes_of (one ∷ [])) (left_of s value pointer) (d + indices_in (suffixes_of (one ∷ rest))) ++
        further_code w (suffixes_of rest) (further_place w (suffixes_of (one ∷ [])) (place_at_once s)) (d + indices_in (suffixes_of rest)))
    begun_pointer (OneSuffix.Index index) rest d =
        let others = suffixes_of rest in
        let first = own + length (suffix_values w names others) in
        let m = indices_in others in
        let to = pointee s in
        let i = indices_code w names others d own in
        let e = expression_code w names index (d + m) first in
        let all = further_code w others (place_at_once to) (d + m) in
        let up : d + m + 1 ≡ d + suc m = omega arith in
        let down : d + m ≡ d + suc m - 1 = omega arith in
        pointer_is others (place_at_once to) (λ t. expression_code w names index t first ++ (value (t + 1) ++ subscript_code w s t)) own d
        ∙ ap (λ x. i ++ x) (append_assoc e (value (d + m + 1) ++ subscript_code w s (d + m)) all)
        ∙ sym (append_assoc i e ((value (d + m + 1) ++ subscript_code w s (d + m)) ++ all))
        ∙ ap (λ t. (i ++ e) ++ ((value t ++ subscript_code w s (d + m)) ++ all)) up
        ∙ ap (λ t. (i ++ e) ++ ((value (d + suc m) ++ subscript_code w s t) ++ all)) down
    begun_pointer (OneSuffix.Dot f) rest d = pointer_is (suffixes_of rest) (member_place w (place_at_once s) f.text) pointer own d
    begun_pointer (OneSuffix.Arrow f) rest d =
        pointer_is (suffixes_of rest) (member_place w (place_at_once (pointee s)) f.text) (λ t. value t ++ reach_code w s t) own d

    begun_leads : (one : OneSuffix) (rest : List OneSuffix)
        → suffixed_code w names (suffixes_of (one ∷ rest)) (left_of s value pointer) own
        ≡ left_at (further_place w (suffixes_of rest) (further_place w (suffixes_of (one ∷ [])) (place_at_once s)))
        (suffixed_code w names (suffixes_of (one ∷ rest)) (left_of s value pointer) own).pointer
    begun_leads (OneSuffix.Index index) rest =
        let first = own + length (suffix_values w names (suffixes_of rest)) in
        leads_to (suffixes_of rest) (place_at_once (pointee s))
        (λ t. expression_code w names index t first ++ (value (t + 1) ++ subscript_code w s t)) own
    begun_leads (OneSuffix.Dot f) rest = leads_to (suffixes_of rest) (member_place w (place_at_once s) f.text) pointer own
    begun_leads (OneSuffix.Arrow f) rest =
        leads_to (suffixes_of rest) (member_place w (place_at_once (pointee s)) f.text) (λ t. value t ++ reach_code w s t) own

    pub begun_place : (one : OneSuffix) (rest : List OneSuffix) (p start : Place) (d : ℕ)
        → start ≡ further_place w (suffixes_of (one ∷ [])) (place_at_once s) → p ≡ further_place w (suffixes_of rest) start
        → IsLeftAt (suffixed_code w names (suffixes_of (one ∷ rest)) (left_of s value pointer) own) p d
    begun_place one rest p start d start_is p_is =
        let left = suffixed_code w names (suffixes_of (one ∷ rest)) (left_of s value pointer) own in
        let q = further_place w (suffixes_of rest) (further_place w (suffixes_of (one ∷ [])) (place_at_once s)) in
        let is : p ≡ q = p_is ∙ ap (further_place w (suffixes_of rest)) start_is in
        let leads : left ≡ left_at q left.pointer = begun_leads one rest in
        record {
          shape = ap (λ (x : Place). x.shape) is ∙ sym (ap (λ (x : Left). x.shape) leads);
          cells = ap (λ (x : Place). x.cells) is ∙ sym (ap (λ (x : Left). x.cells) leads);
          bytes = ap (λ (x : Place). x.bytes) is ∙ sym (ap (λ (x : Left). x.bytes) leads);
          value = ap (λ (x : Left). x.value d) leads ∙ ap (λ (x : Left). left.pointer d ++ loads_code x.shape d x.cells x.bytes) (sym leads);
        }

  -- the indices, then what is on the left, and then what is behind the first suffix
  pub suffixed_whole : (one : OneSuffix) (rest : List OneSuffix) (e : Expression) (d own n behind pointer : ℕ)
      (before indexed begun after : List Statement) (start : Place) → n ≡ own + length (suffix_values w names (suffixes_of (one ∷ rest)))
      → behind ≡ d + indices_in (suffixes_of (one ∷ rest)) → pointer ≡ d + indices_in (suffixes_of rest)
      → start ≡ further_place w (suffixes_of (one ∷ [])) (place_at_once (static_shape w names e))
      → indexed ≡ before ++ indices_code w names (suffixes_of (one ∷ rest)) d own
      → begun ≡ indexed ++ first_code w (suffixes_of (one ∷ []))
      (left_of (static_shape w names e) (λ t. expression_code w names e t n) (λ t. place_code w names e t n)) behind
      → after ≡ begun ++ further_code w (suffixes_of rest) start pointer → after ≡ before ++ (left_by w names e (suffixes_of (one ∷ rest)) own).pointer d
  suffixed_whole one rest e d own n behind pointer before indexed begun after start n_is behind_is pointer_is start_is indexed_is begun_is after_is =
      let number = own + length (suffix_values w names (suffixes_of (one ∷ rest))) in
      let s = static_shape w names e in
      let first : ℕ → ℕ → List Statement = λ k t.
      first_code w (suffixes_of (one ∷ [])) (left_of s (λ u. expression_code w names e u k) (λ u. place_code w names e u k)) t in
      let begins = first number (d + indices_in (suffixes_of (one ∷ rest))) in
      let place = further_place w (suffixes_of (one ∷ [])) (place_at_once s) in
      let goes_on = further_code w (suffixes_of rest) place (d + indices_in (suffixes_of rest)) in
      let indices = indices_code w names (suffixes_of (one ∷ rest)) d own in
      then_of before indices indexed (begins ++ goes_on) after ((left_by w names e (suffixes_of (one ∷ rest)) own).pointer d) indexed_is
      (then_of indexed begins begun goes_on after (begins ++ goes_on)
      (begun_is ∙ ap (λ x. indexed ++ first x behind) n_is ∙ ap (λ x. indexed ++ first number x) behind_is)
      (after_is ∙ ap (λ x. begun ++ further_code w (suffixes_of rest) x pointer) start_is
      ∙ ap (λ x. begun ++ further_code w (suffixes_of rest) place x) pointer_is) refl)
      (begun_pointer s (λ t. expression_code w names e t number) (λ t. place_code w names e t number) own one rest d)

-- ---- one suffix after the other

module _ (w : World) where
  pub further_one : (one : OneSuffix) (rest : List OneSuffix) (p : Place) (t : ℕ)
      → further_code w (suffixes_of (one ∷ rest)) p t
      ≡ further_code w (suffixes_of (one ∷ [])) p t ++
      further_code w (suffixes_of rest) (further_place w (suffixes_of (one ∷ [])) p) (t - indices_in (suffixes_of (one ∷ [])))
  further_one (OneSuffix.Index index) rest p t =
      let loads = loads_code p.shape t p.cells p.bytes in
      let here = subscript_code w p.shape (t - 1) in
      let others = further_code w (suffixes_of rest) (place_at_once (pointee p.shape)) (t - 1) in
      ap (λ x. loads ++ (x ++ others)) (sym (append-nil here)) ∙ sym (append_assoc loads (here ++ []) others)
  further_one (OneSuffix.Dot f) rest p t =
      let same : t ≡ t - 0 = omega arith in
      ap (further_code w (suffixes_of rest) (member_place w p f.text)) same
  further_one (OneSuffix.Arrow f) rest p t =
      let loads = loads_code p.shape t p.cells p.bytes in
      let here = reach_code w p.shape t in
      let others : ℕ → List Statement = further_code w (suffixes_of rest) (member_place w (place_at_once (pointee p.shape)) f.text) in
      let same : t ≡ t - 0 = omega arith in
      ap (λ x. loads ++ (x ++ others t)) (sym (append-nil here)) ∙ sym (append_assoc loads (here ++ []) (others t))
      ∙ ap (λ x. (loads ++ (here ++ [])) ++ others x) same

  pub place_one : (one : OneSuffix) (rest : List OneSuffix) (p : Place)
      → further_place w (suffixes_of (one ∷ rest)) p ≡ further_place w (suffixes_of rest) (further_place w (suffixes_of (one ∷ [])) p)
  place_one (OneSuffix.Index index) rest p = refl
  place_one (OneSuffix.Dot f) rest p = refl
  place_one (OneSuffix.Arrow f) rest p = refl

  -- its shape is as it is known without code
  pub place_shape : (suffixes : Suffixes) (p : Place) → (further_place w suffixes p).shape ≡ suffixed_shape w suffixes p.shape
  place_shape NoSuffixes p = refl
  place_shape (Index index others) p = place_shape others (place_at_once (pointee p.shape))
  place_shape (Dot f others) p = place_shape others (member_place w p f.text)
  place_shape (Arrow f others) p = place_shape others (member_place w (place_at_once (pointee p.shape)) f.text)

  -- the first one is on what stands on its left
  pub suffixes_one : (names : List Named) (one : OneSuffix) (rest : List OneSuffix) (s : Shape) (value place : Type 0)
      → TakesSuffixes w names (suffixes_of (one ∷ rest)) s value place
      → TakesSuffixes w names (suffixes_of (one ∷ [])) s value place
  suffixes_one names (OneSuffix.Index index) rest s value place h = (h.0, (h.1.0, (h.1.1.0, tt)))
  suffixes_one names (OneSuffix.Dot f) rest s value place h = (h.0, (h.1.0, tt))
  suffixes_one names (OneSuffix.Arrow f) rest s value place h = (h.0, (h.1.0, tt))

-- ---- what is done with the place

-- its value is read
pub read_left : (left : Left) (p : Place) (d : ℕ) → IsLeftAt left p d → left.value d ≡ left.pointer d ++ loads_code p.shape d p.cells p.bytes
read_left left p d is =
    is.value ∙ ap (λ x. left.pointer d ++ loads_code x d left.cells left.bytes) (sym is.shape)
    ∙ ap (λ x. left.pointer d ++ loads_code p.shape d x left.bytes) (sym is.cells)
    ∙ ap (λ x. left.pointer d ++ loads_code p.shape d p.cells x) (sym is.bytes)

-- a value is stored there
pub stored_left : (left : Left) (p : Place) (t d : ℕ) → IsLeftAt left p t → store_to left t d ≡ left.pointer t ++ stores_code p.shape t d p.cells p.bytes
stored_left left p t d is =
    ap (λ x. left.pointer t ++ stores_code x t d left.cells left.bytes) (sym is.shape)
    ∙ ap (λ x. left.pointer t ++ stores_code p.shape t d x left.bytes) (sym is.cells)
    ∙ ap (λ x. left.pointer t ++ stores_code p.shape t d p.cells x) (sym is.bytes)

-- a pointer leads to it
pub pointed_left : (left : Left) (p : Place) (d : ℕ) → IsLeftAt left p d → pointer_to left d ≡ left.pointer d ++ offset_code d p.cells p.bytes
pointed_left left p d is =
    ap (λ x. left.pointer d ++ offset_code d x left.bytes) (sym is.cells) ∙ ap (λ x. left.pointer d ++ offset_code d p.cells x) (sym is.bytes)
