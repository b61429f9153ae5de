-- What stands around the code of values: suffixes, operators, structs and unions that are copied, members, and what `new` and `rnew` make.
use Rattle.std.proofs.Common.{◌≡◌, ℕ, suc, ◌+◌, List, [], ◌∷◌, ◌++◌, Bool, true, false, refl, ap, ◌∙◌}
use Rattle.std.specs.Prelude.{◌||◌, ◌&&◌, bytes_eq, not}
use Rattle.std.proofs.lemmas.List.{append-nil}
use Rattle.cyc_tree.specs.declared.expression.Operator.TheVariants as operator
use Rattle.cyc_tree.specs.declared.expression.Prefix.{Prefix}
use Rattle.cyc_tree.specs.declared.expression.Prefix.TheVariants as prefix
use Rattle.source_meaning.specs.Shapes.{Shape, IntShape, StructShape, UnionShape, pointee}
use Rattle.source_meaning.specs.Steps.{World}
use Rattle.core_meaning.specs.Core.{Constant, Do, Statement}
use Rattle.source_lowering.specs.Members.{subscript_code, words_in}
use Rattle.source_lowering.specs.Lowered.{
  Left,
  Named,
  array_code,
  copied_code,
  element_at,
  element_by,
  element_names,
  member_at,
  member_behind,
  member_code,
  member_shape,
  new_code_by,
  next_number,
  pointed_code,
  pointer_to,
  prefix_code,
  reach_code,
  store_to,
}
use Rattle.source_lowering.specs.Lowerable.{TakesMember, TakesPointer, TakesPrefix}
use Rattle.home_proof.specs.Names.{is_address}
use Rattle.home_proof.proofs.Codes.{addresses, both_plain, flags_of, or_false, plain}
use Rattle.home_proof.proofs.Leads.{Does, LeftDoes, ahead, behind, both}
use Rattle.home_proof.proofs.Scopes.{leads_element, leads_index}
use Rattle.home_proof.proofs.Pieces.{conversion_plain, loads_plain, not_plain, offset_plain, operator_plain, reach_plain, request_plain, stores_plain}
use Rattle.home_proof.proofs.Pieces.{subscript_plain}

module _ {names : List Named} (w : World) where
  -- ---- suffixes

  pub member_left : {p : List ℕ → Bool} {f : List Bool} (s : Shape) (pointer : ℕ → List Statement) (cells bytes : ℕ) (field : List ℕ)
      → ((d : ℕ) → Does names (pointer d) p f) → LeftDoes names (member_at w s pointer cells bytes field) p f
  member_left s pointer cells bytes field h = record { value = λ d. behind (h d) (loads_plain (member_shape w s field) d _ _); pointer = h }

  -- of what a value leads to
  pub behind_left : {p : List ℕ → Bool} {f : List Bool} (left : Left) (field : List ℕ) → ((d : ℕ) → Does names (left.value d) p f)
      → LeftDoes names (member_behind w left field) p f
  behind_left left field h =
      member_left (pointee left.shape) (λ d. left.value d ++ reach_code w left.shape d) 0 0 field (λ d. behind (h d) (reach_plain w left.shape d))

  pub element_left : {p q : List ℕ → Bool} {f g : List Bool} (from : Shape) (index value : ℕ → List Statement) → ((d : ℕ) → Does names (index d) p f)
      → ((d : ℕ) → Does names (value d) q g) → LeftDoes names (element_at w from index value) (λ n. p n || q n) (f ++ g)
  element_left {p = p} {q = q} {f = f} {g = g} from index value a b = record {
    value = λ d. behind (pointer d) (loads_plain (pointee from) d 0 0);
    pointer = pointer;
  }
    where
      pointer : (d : ℕ) → Does names (index d ++ (value (d + 1) ++ subscript_code w from d)) (λ n. p n || q n) (f ++ g)
      pointer d = both (a d) (behind (b (d + 1)) (subscript_plain w from d))

  -- a pointer to what suffixes lead to
  pub pointed_left : {p : List ℕ → Bool} {f : List Bool} (left : Left) (d : ℕ) → LeftDoes names left p f → Does names (pointer_to left d) p f
  pointed_left left d h = behind (h.pointer d) (offset_plain d left.cells left.bytes)

  -- a value is stored there
  pub stored_left : {p : List ℕ → Bool} {f : List Bool} (left : Left) (x d : ℕ) → LeftDoes names left p f → Does names (store_to left x d) p f
  stored_left left x d h = behind (h.pointer x) (stores_plain left.shape x d left.cells left.bytes)

  -- ---- operators

  -- on an operand that is taken as a value, or as a place, whose own name (`own`) `&` is applied to
  pub prefix_does : {p : List ℕ → Bool} {f : List Bool} (own : List ℕ → Bool) (o : Prefix) (s : Shape) (d : ℕ) (above here place : List Statement)
      (value pointed : Type 0)
      → TakesPrefix o s value pointed → (value → Does names above p f) → (value → Does names here p f)
      → (pointed → Does names place (λ n. own n || p n) f)
      → Does names (prefix_code w o s d above here place) (λ n. (is_address o && own n) || p n) f
  prefix_does own prefix.Negate s d above here place value pointed takes a h q =
      ahead {xs = Do (Constant d 0) ∷ []} (plain refl (λ o i. refl)) (behind (a takes) (operator_plain operator.Subtract IntShape s d))
  prefix_does own prefix.Complement s d above here place value pointed takes a h q =
      ahead {xs = Do (Constant d 4294967295) ∷ []} (plain refl (λ o i. refl)) (behind (a takes) (operator_plain operator.BitXor IntShape s d))
  prefix_does own prefix.Not s d above here place value pointed takes a h q = behind (a takes) (not_plain s d)
  prefix_does own prefix.Dereference s d above here place value pointed takes a h q =
      behind (behind (h takes.0) (reach_plain w s d)) (loads_plain (pointee s) d 0 0)
  prefix_does own prefix.AddressOf s d above here place value pointed takes a h q = q takes

  pub pointed_does : {p : List ℕ → Bool} {f : List Bool} (own : List ℕ → Bool) (o : Prefix) (s : Shape) (d : ℕ) (here : List Statement) (value : Type 0)
      → TakesPointer o value
      → (value → Does names here p f) → Does names (pointed_code w o s d here) (λ n. (is_address o && own n) || p n) f
  pointed_does own prefix.Dereference s d here value takes h = behind (h takes) (reach_plain w s d)
  pointed_does own _ s d here value takes h = absurd takes

  -- ---- structs and unions

  -- a place that is read whole
  pub copied_does : {p : List ℕ → Bool} {f : List Bool} (s : Shape) (d next : ℕ) (place : List Statement) → Does names place p f
      → Does names (place ++ copied_code w s d next) p f
  copied_does s d next place h = behind h (plain refl (λ o i. refl))

  module _ {p : List ℕ → Bool} {f : List Bool} (whole word : List Statement) (for_whole for_word : Type 0) (as_whole : for_whole → Does names whole p f)
      (as_word : for_word → Does names word p f) where
    -- a member of a struct
    pub member_does : (s from : Shape) (d cells bytes : ℕ) → TakesMember s for_whole for_word → Does names (member_code w s from d cells bytes whole word) p f
    member_does (StructShape tag) from d cells bytes h = behind (as_whole h) (plain refl (λ o i. refl))
    member_does (UnionShape tag) from d cells bytes h = behind (as_whole h) (plain refl (λ o i. refl))
    member_does s from d cells bytes h =
        behind (as_word h) (both_plain _ _ (conversion_plain w s from (d + 1)) (stores_plain s d (d + 1) cells bytes))

    -- what is made: a block is asked for, and the value stored there
    pub made_does : (unique : Bool) (s : Shape) (d : ℕ) → TakesMember s for_whole for_word → Does names (new_code_by w unique s d whole word) p f
    made_does unique (StructShape tag) d h =
        behind (as_whole h) (both_plain _ _ (request_plain w unique (StructShape tag) d (d + 2)) (plain refl (λ o i. refl)))
    made_does unique (UnionShape tag) d h =
        behind (as_whole h) (both_plain _ _ (request_plain w unique (UnionShape tag) d (d + 2)) (plain refl (λ o i. refl)))
    made_does unique s d h =
        behind (as_word h) (both_plain _ _ (request_plain w unique s d (d + 1 + words_in s)) (stores_plain s d (d + 1) 0 0))

    -- an element of an array that is made
    pub element_does : (s : Shape) (d : ℕ) → TakesMember s for_whole for_word → Does names (element_by w s d whole word) p f
    element_does (StructShape tag) d h = behind (as_whole h) (plain refl (λ o i. refl))
    element_does (UnionShape tag) d h = behind (as_whole h) (plain refl (λ o i. refl))
    element_does s d h =
        let stored = stores_plain s (d + 3 + words_in s) (d + 3) 0 0 in behind (as_word h) (plain stored.flags stored.free)

-- ---- arrays

-- the request for an array, and its elements in the block of their index
module _ {p : List ℕ → Bool} {f : List Bool} (w : World) (names : List Named) (x : List ℕ) (s : Shape) (d : ℕ) (each : List Statement)
    (h : Does (element_names x names) each p f) where
  turn : Does (element_names x names) (each ++ next_number d) p f
  turn = behind h (plain refl (λ o i. refl))

  pub array_does : Does names (array_code w s d each) (λ n. not (bytes_eq x n) && p n) (not (p x) ∷ f)
  array_does = record {
    flagged = by (addresses 0 0 (each ++ next_number d)) (flags_of (each ++ next_number d)) (turn.pointed 0 0 x true (leads_index names x)) turn.flagged;
    pointed = λ out index n visible g.
        ends (addresses (suc out) index (each ++ next_number d)) ∙
        (turn.pointed (suc out) index n (visible && not (bytes_eq x n)) (leads_element names x out index n visible g) ∙
        shared visible (not (bytes_eq x n)) (p n));
  }
    where
      by : (a : Bool) (fs : List Bool) → a ≡ p x → fs ≡ f → (not (a || false) ∷ ((fs ++ []) ++ [])) ≡ (not (p x) ∷ f)
      by a fs e i =
          ap (λ z. not z ∷ ((fs ++ []) ++ [])) (or_false a ∙ e) ∙
          ap (λ z. not (p x) ∷ z) (append-nil (fs ++ []) ∙ (append-nil fs ∙ i))

      ends : (a : Bool) → (((a || false) || false)) ≡ a
      ends a = or_false (a || false) ∙ or_false a

      shared : (a b c : Bool) → ((a && b) && c) ≡ (a && (b && c))
      shared true b c = refl
      shared false b c = refl
