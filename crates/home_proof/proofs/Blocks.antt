-- The code of blocks: which of their locals may live in a register.
use Rattle.std.proofs.Common.{◌≡◌, ℕ, zero, suc, ◌+◌, ◌≤◌, List, [], ◌∷◌, ◌++◌, Bool, true, false, refl, sym, ap, ◌∙◌, arith}
use Rattle.std.specs.Prelude.{◌||◌, ◌&&◌, not, nat_eq, bytes_eq}
use Rattle.std.proofs.lemmas.Bool.{false≢true, ne_eqb, or_right}
use Rattle.std.proofs.lemmas.List.{append-nil}
use Rattle.cyc_tree.specs.Tree as tree
use Rattle.cyc_tree.specs.Tree.{BlockItems, Declaration, Declare, Execute}
use Rattle.source_meaning.specs.Shapes.{Shape}
use Rattle.source_meaning.specs.Steps.{World}
use Rattle.core_meaning.specs.Core.{Block, Leave, Statement, Statements}
use Rattle.source_lowering.specs.Lowered.{Named, all_of}
use Rattle.source_lowering.specs.Programs.{block_shapes, local_shape, locals_of, named_here, names_behind, outward}
use Rattle.source_lowering.specs.Layouts.{local_of}
use Rattle.source_lowering.specs.Lowerable.{IsVariable}
use Rattle.core_lines.specs.Homes.{addressed_of, eligible_from, is_scalar}
use Rattle.home_proof.specs.Names.{is_word, may_live, pointed_in, pointed_in_declaration, pointed_in_items}
use Rattle.home_proof.specs.Numbered.{declaration_flags, here_flags, statement_flags, within_flags}
use Rattle.home_proof.proofs.Codes.{IsPlain, addresses, addresses_both, flags_both, flags_of, or_false}
use Rattle.home_proof.proofs.Leads.{Does}
use Rattle.home_proof.proofs.Scopes.{AreBefore, IsBefore, leads_behind, leads_here, leads_nowhere, leads_within, not_there, outward_before}
use Rattle.home_proof.proofs.Locals.{DoesAt, Fits, anywhere, both_at}
use Rattle.home_proof.proofs.Declared.{begins_itself, local_flag}

-- The items of a block whose next local has this number: what is asked of earlier locals, and of those further out; and their own locals in the block's code,
-- which has no other code that takes their addresses.
pub record ItemsDo (w : World) (names : List Named) (count : ℕ) (items : BlockItems) (code : List Statement) : Type 0 where
  pub does : DoesAt (λ out index. IsBefore out index count) names code (λ n. pointed_in_items n items) (within_flags w names count items)
  pub here : (body : Statements) → ((index : ℕ) → count ≤ index → addressed_of 0 index body ≡ addresses 0 index code)
      → eligible_from count (locals_of w (block_shapes w names count items)) body ≡ here_flags w names count items

pub leave_does : {names : List Named} {p : List ℕ → Bool} {f : List Bool} (code : List Statement) → Does names code p f
    → Does names (Leave (all_of code) ∷ []) p f
leave_does code h = record {
  flagged = append-nil (flags_of code) ∙ h.flagged;
  pointed = λ out index n visible l. or_false (addresses out index code) ∙ h.pointed out index n visible l;
}

later : (out index count : ℕ) → IsBefore out index count → IsBefore out index (suc count)
later zero index count h = omega (arith, h)
later (suc out) index count h = tt

fits_before : (s : Shape) (out index count : ℕ) → IsBefore out index count → Fits s count out index
fits_before s out index count h = ap (λ z. not z || is_word s) (not_there out index count h)

pub fits_behind : (s : Shape) (index count : ℕ) → suc count ≤ index → Fits s count 0 index
fits_behind s index count h = ap (λ z. not z || is_word s) (ne_eqb count index (λ q. omega (arith, h, q)))

pub fits_word : (s : Shape) (out index count : ℕ) → is_word s ≡ true → Fits s count out index
fits_word s out index count is = or_right (not (nat_eq 0 out && nat_eq count index)) (is_word s) is

shared : (visible a b c : Bool) → ((visible && a) || ((visible && b) && c)) ≡ (visible && (a || (b && c)))
shared true a b c = refl
shared false a b c = refl

and_shared : (visible b c : Bool) → ((visible && b) && c) ≡ (visible && (b && c))
and_shared true b c = refl
and_shared false b c = refl

module _ (w : World) (names : List Named) where
  -- ---- a block of its own

  pub block_does : (items : BlockItems) (code : List Statement) → ItemsDo w (outward names) 0 items code
      → Does names (Block (locals_of w (block_shapes w (outward names) 0 items)) (all_of code) ∷ []) (λ n. pointed_in_items n items)
      (here_flags w (outward names) 0 items ++ within_flags w (outward names) 0 items)
  block_does items code h = record {
    flagged =
        append-nil (eligible_from 0 (locals_of w (block_shapes w (outward names) 0 items)) (all_of code) ++ flags_of code) ∙
        (ap (λ z. z ++ flags_of code) (h.here (all_of code) (λ index less. refl)) ∙ ap (λ z. here_flags w (outward names) 0 items ++ z) h.does.flagged);
    pointed = λ out index n visible l.
        or_false (addresses (suc out) index code) ∙ h.does.pointed (suc out) index n visible tt (leads_within names out index n visible l);
  }

  -- ---- items

  module _ (d : Declaration) (count : ℕ) (others : BlockItems) (first behind after : List Statement) (before : AreBefore names count)
      (variable : IsVariable w.unions w.structs (local_shape w names d))
      (does : DoesAt (Fits (local_shape w names d) count) names first (λ n. pointed_in_declaration n d) (declaration_flags d))
      (taken : begins_itself (local_shape w names d) ≡ true → addresses 0 count first ≡ true)
      (inner : ItemsDo w (names_behind w names count d) (suc count) others behind) (plain : IsPlain after) where
    abbrev pub its_shape : Shape
    its_shape = local_shape w names d

    abbrev pub its_name : List ℕ
    its_name = (tree.local_of d).text

    rest : (out index : ℕ) → addresses out index (behind ++ after) ≡ addresses out index behind
    rest out index =
        addresses_both out index behind after ∙ (ap (λ z. addresses out index behind || z) (plain.free out index) ∙ or_false (addresses out index behind))

    whole : (out index : ℕ) → addresses out index (first ++ (behind ++ after)) ≡ (addresses out index first || addresses out index behind)
    whole out index = addresses_both out index first (behind ++ after) ∙ ap (λ z. addresses out index first || z) (rest out index)

    -- no later local's address is taken, nor its own where it is a word
    free : (index : ℕ) → count ≤ index → Fits its_shape count 0 index → addresses 0 index first ≡ false
    free index less fits = does.pointed 0 index [] false fits (leads_nowhere names count index before less)

    flag : (body : Statements) → ((index : ℕ) → count ≤ index → addressed_of 0 index body ≡ addresses 0 index (first ++ (behind ++ after)))
        → (is_scalar (local_of w its_shape) && not (addressed_of 0 count body)) ≡ may_live its_shape (pointed_in_items its_name others)
    flag body e =
        local_flag w its_shape (addressed_of 0 count body) (pointed_in_items its_name others) variable
        (λ is. e count (omega arith) ∙ (whole 0 count ∙
        (ap (λ z. z || addresses 0 count behind) (free count (omega arith) (fits_word its_shape 0 count count is)) ∙
        inner.does.pointed 0 count its_name true (omega arith) (leads_here names its_name its_shape count before is))))
        (λ is. e count (omega arith) ∙ (whole 0 count ∙ ap (λ z. z || addresses 0 count behind) (taken is)))

    pub declared_do : ItemsDo w names count (Declare d others) (first ++ (behind ++ after))
    declared_do = record {
      does = record {
        flagged =
            flags_both first (behind ++ after) ∙ (ap (λ z. z ++ flags_of (behind ++ after)) does.flagged ∙
            ap (λ z. declaration_flags d ++ z)
            (flags_both behind after ∙ (ap (λ z. flags_of behind ++ z) plain.flags ∙ (append-nil (flags_of behind) ∙ inner.does.flagged))));
        pointed = λ out index n visible t l.
            whole out index ∙ (ap (λ z. z || addresses out index behind)
            (does.pointed out index n visible (fits_before its_shape out index count t) l) ∙
            (ap (λ z. (visible && pointed_in_declaration n d) || z)
            (inner.does.pointed out index n (visible && not (bytes_eq its_name n)) (later out index count t)
            (leads_behind names its_name its_shape count out index n visible t l)) ∙
            shared visible (pointed_in_declaration n d) (not (bytes_eq its_name n)) (pointed_in_items n others)));
      };
      here = λ body e.
          ap (λ z. z ∷ eligible_from (suc count) (locals_of w (block_shapes w (names_behind w names count d) (suc count) others)) body) (flag body e) ∙
          ap (λ z. may_live its_shape (pointed_in_items its_name others) ∷ z)
          (inner.here body (λ index less.
          e index (omega (arith, less)) ∙ (whole 0 index ∙
          ap (λ z. z || addresses 0 index behind) (free index (omega (arith, less)) (fits_behind its_shape index count less)))));
    }

  pub executed_do : (s : tree.Statement) (count : ℕ) (others : BlockItems) (first behind : List Statement) → AreBefore names count
      → Does names first (λ n. pointed_in n s) (statement_flags w names s) → ItemsDo w names count others behind
      → ItemsDo w names count (Execute s others) (first ++ behind)
  executed_do s count others first behind before h inner = record {
    does = both_at (anywhere h) inner.does;
    here = λ body e.
        inner.here body (λ index less.
        e index less ∙ (addresses_both 0 index first behind ∙
        ap (λ z. z || addresses 0 index behind) (h.pointed 0 index [] false (leads_nowhere names count index before less))));
  }

  -- ---- the block of a clause, whose first local is the copy of a member

  module _ (x : List ℕ) (s : Shape) (items : BlockItems) (held put code : List Statement) (variable : IsVariable w.unions w.structs s)
      (simple : begins_itself s ≡ false) (plain : IsPlain held) (none : flags_of put ≡ [])
      (free : (out index : ℕ) → Fits s 0 out index → addresses out index put ≡ false) (inner : ItemsDo w (named_here x s 0 ∷ outward names) 1 items code) where
    abbrev pub inside : List Named
    inside = named_here x s 0 ∷ outward names

    abbrev pub body : List Statement
    body = held ++ (put ++ code)

    only : (out index : ℕ) → Fits s 0 out index → addresses out index body ≡ addresses out index code
    only out index t =
        addresses_both out index held (put ++ code) ∙ (ap (λ z. z || addresses out index (put ++ code)) (plain.free out index) ∙
        (addresses_both out index put code ∙ ap (λ z. z || addresses out index code) (free out index t)))

    pub flags : flags_of body ≡ within_flags w inside 1 items
    flags =
        flags_both held (put ++ code) ∙ (ap (λ z. z ++ flags_of (put ++ code)) plain.flags ∙
        (flags_both put code ∙ (ap (λ z. z ++ flags_of code) none ∙ inner.does.flagged)))

    abbrev pub locals : List Bool
    locals = eligible_from 1 (locals_of w (block_shapes w inside 1 items)) (all_of body)

    its_flag : (is_scalar (local_of w s) && not (addresses 0 0 body)) ≡ may_live s (pointed_in_items x items)
    its_flag =
        local_flag w s (addresses 0 0 body) (pointed_in_items x items) variable
        (λ is. only 0 0 (fits_word s 0 0 0 is) ∙ inner.does.pointed 0 0 x true (omega arith) (leads_here (outward names) x s 0 (outward_before names) is))
        (λ is. absurd (false≢true (sym simple ∙ is)))

    pub clause_does : Does names (Block (locals_of w (s ∷ block_shapes w inside 1 items)) (all_of body) ∷ [])
        (λ n. not (bytes_eq x n) && pointed_in_items n items)
        (may_live s (pointed_in_items x items) ∷ (here_flags w inside 1 items ++ within_flags w inside 1 items))
    clause_does = record {
      flagged =
          ap (λ z. z ∷ ((locals ++ flags_of body) ++ [])) its_flag ∙
          ap (λ z. may_live s (pointed_in_items x items) ∷ z)
          (append-nil (locals ++ flags_of body) ∙
          (ap (λ z. z ++ flags_of body) (inner.here (all_of body) (λ index less. only 0 index (fits_behind s index 0 less))) ∙
          ap (λ z. here_flags w inside 1 items ++ z) flags));
      pointed = λ out index n visible l.
          or_false (addresses (suc out) index body) ∙ (only (suc out) index (fits_before s (suc out) index 0 tt) ∙
          (inner.does.pointed (suc out) index n (visible && not (bytes_eq x n)) tt
          (leads_behind (outward names) x s 0 (suc out) index n visible tt (leads_within names out index n visible l)) ∙
          and_shared visible (not (bytes_eq x n)) (pointed_in_items n items)));
    }
