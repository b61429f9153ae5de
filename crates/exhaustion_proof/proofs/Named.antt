-- The names that events give to what is live, beside the store's own numbers and addresses, and how each call keeps them.
use Rattle.std.proofs.Common.{◌≡◌, ℕ, suc, ◌^◌, ◌≤◌, Bool, true, false, Option, Some, None, nat_eq, refl, sym, ap, subst, ◌∙◌, arith}
use Rattle.std.specs.Prelude.{if◌then◌else◌, ◌&&◌, nat_le, nat_lt}
use Rattle.std.proofs.lemmas.Option.{same_Some}
use Rattle.std.proofs.lemmas.Bool.{ne_eqb}
use Rattle.std.proofs.lemmas.Bool.Decides.{nat_tests}
use Rattle.arena_laws.specs.declared.standing.Standing.{Standing}
use Rattle.arena_laws.specs.declared.owner.Owner.TheVariants.{Region, Alone}
use Rattle.arena_laws.specs.Counts.{put}
use Rattle.arena_laws.specs.Holdings.{Holdings, fresh, is_some, is_none}
use Rattle.arena_laws.specs.Lawful.{with_number, without_number, is_new_number, with_region_block, with_alone, without_alone, standing_as, takes_blocks}
use Rattle.arena_laws.specs.Lawful.{is_in_room, owns, is_of, without_blocks, is_alone}
use Rattle.arena_laws.specs.Calls.{Names, no_names}
use Rattle.rv32_machine.specs.Ledger.{Ledger}
use Rattle.rv32_machine.specs.Ledger as ledger

-- The names are those of the ledger: each live number and the heap, and each live unique block, has the name of its birth.
pub record AreNamed (names : Names) (s : Holdings) (l : Ledger) : Type 0 where
  pub heap : names.number 0 ≡ Some 0
  pub heap_birth : l.birth_of 0 ≡ 0
  pub no_heap : s.standing 0 ≡ None
  pub numbers : (h : ℕ) → is_some (s.standing h) ≡ true → names.number (l.birth_of h) ≡ Some h
  pub low : (h : ℕ) → l.birth_of h ≤ l.births
  pub blocks : (at room : ℕ) → s.owner at ≡ Some (Alone at room) → names.address (l.alone_birth at) ≡ Some at
  pub low_blocks : (at : ℕ) → l.alone_birth at ≤ l.births

-- ---- tests of numbers

same : (n : ℕ) → nat_eq n n ≡ true
same n = grind (arith, nat_tests)

equal : (m n : ℕ) → nat_eq m n ≡ true → m ≡ n
equal m n e = grind (arith, nat_tests)

below : (m n : ℕ) → m ≤ n → nat_eq m (suc n) ≡ false
below m n l = grind (arith, nat_tests)

-- what is put at one place is there, and nothing else changes
put_here : {A : Type 0} (k : ℕ) (x : A) (f : ℕ → A) → put k x f k ≡ x
put_here k x f = rw (same k) refl

put_there : {A : Type 0} (k q : ℕ) (x : A) (f : ℕ → A) → nat_eq q k ≡ false → put k x f q ≡ f q
put_there k q x f e = rw e refl

-- ---- at the start

pub fresh_named : (pages : ℕ) → AreNamed no_names (fresh pages) ledger.unborn
fresh_named pages = record {
  heap = refl;
  heap_birth = refl;
  no_heap = refl;
  numbers = λ h some. absurd cc;
  low = λ h. omega arith;
  blocks = λ at room owned. absurd cc;
  low_blocks = λ at. omega arith;
}

module _ (names : Names) (s : Holdings) (l : Ledger) (are : AreNamed names s l) where
  -- a name that isn't the heap's
  not_heap : (h : ℕ) (x : Standing) → s.standing h ≡ Some x → (0 ≡ h) → ⊥
  not_heap h x e is = (let z : None ≡ Some x = sym are.no_heap ∙ ap s.standing is ∙ e in cc)

  -- live numbers have births of their own
  apart_births : (h k : ℕ) → is_some (s.standing h) ≡ true → is_some (s.standing k) ≡ true → l.birth_of h ≡ l.birth_of k → h ≡ k
  apart_births h k some others is = same_Some h k (sym (are.numbers h some) ∙ ap names.number is ∙ are.numbers k others)

  -- ---- a region or a key is born, under the next birth

  pub born_named : (standing : Standing) (n : ℕ) (m : Ledger) → is_new_number s n ≡ true → m.births ≡ suc l.births
      → m.birth_of ≡ put n (suc l.births) l.birth_of → m.alone_birth ≡ l.alone_birth
      → AreNamed (record names { number = put (suc l.births) (Some n) names.number }) (with_number n standing s) m
  born_named standing n m new births birth_of alone_birth = record {
    heap = put_there (suc l.births) 0 (Some n) names.number (ne_eqb 0 (suc l.births) (λ e. absurd (omega (arith, e)))) ∙ are.heap;
    heap_birth = ap (λ (f : ℕ → ℕ). f 0) birth_of ∙ put_there n 0 (suc l.births) l.birth_of not_zero ∙ are.heap_birth;
    no_heap = put_there n 0 (Some standing) s.standing not_zero ∙ are.no_heap;
    numbers = λ h some. subst (λ (f : ℕ → ℕ). put (suc l.births) (Some n) names.number (f h) ≡ Some h) (sym birth_of) (number h (nat_eq h n) refl some);
    low = λ h. subst (λ (k : ℕ). m.birth_of h ≤ k) (sym births) (subst (λ (f : ℕ → ℕ). f h ≤ suc l.births) (sym birth_of) (lower h (nat_eq h n) refl));
    blocks = λ at room owned. ap (λ (f : ℕ → ℕ). names.address (f at)) alone_birth ∙ are.blocks at room owned;
    low_blocks = λ at. let z = are.low_blocks at in let e = ap (λ (f : ℕ → ℕ). f at) alone_birth in omega (arith, z, e, births);
  }
    where
      first : (a b c : Bool) → (a && (b && c)) ≡ true → a ≡ true
      first true b c e = refl
      first false b c e = absurd cc

      not_zero : nat_eq 0 n ≡ false
      not_zero =
          let one : nat_le 1 n ≡ true = first (nat_le 1 n) (nat_lt n (2 ^ 32)) (is_none (s.standing n)) new in
          ne_eqb 0 n (λ e. let z : nat_le 1 0 ≡ true = subst (λ (k : ℕ). nat_le 1 k ≡ true) (sym e) one in absurd cc)

      number : (h : ℕ) (b : Bool) → nat_eq h n ≡ b → is_some (put n (Some standing) s.standing h) ≡ true
          → put (suc l.births) (Some n) names.number (put n (suc l.births) l.birth_of h) ≡ Some h
      number h true e some = rw e (put_here (suc l.births) (Some n) names.number ∙ ap (λ (k : ℕ). Some k) (sym (equal h n e)))
      number h false e some =
          let was : is_some (s.standing h) ≡ true = rw e at some in
          rw e (put_there (suc l.births) (l.birth_of h) (Some n) names.number (below (l.birth_of h) l.births (are.low h)) ∙ are.numbers h was)

      lower : (h : ℕ) (b : Bool) → nat_eq h n ≡ b → put n (suc l.births) l.birth_of h ≤ suc l.births
      lower h true e = rw e (omega arith)
      lower h false e = rw e (let z = are.low h in omega (arith, z))

  -- ---- a region or a key ends

  pub freed_named : (h : ℕ) (x : Standing) → s.standing h ≡ Some x
      → AreNamed (record names { number = put (l.birth_of h) None names.number }) (without_number h s) l
  freed_named h x stood = record {
    heap = put_there (l.birth_of h) 0 None names.number not_zero ∙ are.heap;
    heap_birth = are.heap_birth;
    no_heap = put_there h 0 None s.standing (ne_eqb 0 h (not_heap h x stood)) ∙ are.no_heap;
    numbers = λ k some. number k (nat_eq k h) refl some;
    low = are.low;
    blocks = λ at room owned. are.blocks at room (block at room (is_of h (s.owner at)) refl owned);
    low_blocks = are.low_blocks;
  }
    where
      live : is_some (s.standing h) ≡ true
      live = ap is_some stood

      not_zero : nat_eq 0 (l.birth_of h) ≡ false
      not_zero = ne_eqb 0 (l.birth_of h)
          (λ e. not_heap h x stood (same_Some 0 h (sym are.heap ∙ ap names.number e ∙ are.numbers h live)))

      number : (k : ℕ) (b : Bool) → nat_eq k h ≡ b → is_some (put h None s.standing k) ≡ true → put (l.birth_of h) None names.number (l.birth_of k) ≡ Some k
      number k true e some = absurd (let z : false ≡ true = rw e at some in cc)
      number k false e some =
          let was : is_some (s.standing k) ≡ true = rw e at some in
          let other : nat_eq (l.birth_of k) (l.birth_of h) ≡ false =
          ne_eqb (l.birth_of k) (l.birth_of h) (λ f. let z = apart_births k h was live f in
          let y : nat_eq h h ≡ false = subst (λ (j : ℕ). nat_eq j h ≡ false) z e in absurd (let w : true ≡ false = sym (same h) ∙ y in cc)) in
          put_there (l.birth_of h) (l.birth_of k) None names.number other ∙ are.numbers k was

      block : (at room : ℕ) (b : Bool) → is_of h (s.owner at) ≡ b → without_blocks h s.owner at ≡ Some (Alone at room) → s.owner at ≡ Some (Alone at room)
      block at room true e owned = absurd (let z : None ≡ Some (Alone at room) = rw e at owned in cc)
      block at room false e owned = rw e at owned

  -- ---- a live number stands for something else

  pub turned_named : (h : ℕ) (x now : Standing) → s.standing h ≡ Some x → AreNamed names (standing_as h now s) l
  turned_named h x now stood = record {
    heap = are.heap;
    heap_birth = are.heap_birth;
    no_heap = put_there h 0 (Some now) s.standing (ne_eqb 0 h (not_heap h x stood)) ∙ are.no_heap;
    numbers = λ k some. number k (nat_eq k h) refl some;
    low = are.low;
    blocks = are.blocks;
    low_blocks = are.low_blocks;
  }
    where
      number : (k : ℕ) (b : Bool) → nat_eq k h ≡ b → is_some (put h (Some now) s.standing k) ≡ true → names.number (l.birth_of k) ≡ Some k
      number k true e some = are.numbers k (ap (λ (j : ℕ). is_some (s.standing j)) (equal k h e) ∙ ap is_some stood)
      number k false e some = are.numbers k (rw e at some)

  -- ---- a block of a region

  pub placed_named : (h at room : ℕ) → AreNamed names (with_region_block h at room s) l
  placed_named h at room = record {
    heap = are.heap;
    heap_birth = are.heap_birth;
    no_heap = are.no_heap;
    numbers = are.numbers;
    low = are.low;
    blocks = λ q of owned. are.blocks q of (block q of (is_in_room at room q) refl owned);
    low_blocks = are.low_blocks;
  }
    where
      block : (q of : ℕ) (b : Bool) → is_in_room at room q ≡ b → owns at room (Region h) s.owner q ≡ Some (Alone q of) → s.owner q ≡ Some (Alone q of)
      block q of true e owned = absurd (let z : Some (Region h) ≡ Some (Alone q of) = rw e at owned in cc)
      block q of false e owned = rw e at owned

  -- ---- a unique block, under the next birth

  pub alone_named : (n room : ℕ) (m : Ledger) → m.births ≡ suc l.births → m.birth_of ≡ l.birth_of → m.alone_birth ≡ put n (suc l.births) l.alone_birth
      → AreNamed (record names { address = put (suc l.births) (Some n) names.address }) (with_alone n room s) m
  alone_named n room m births birth_of alone_birth = record {
    heap = are.heap;
    heap_birth = ap (λ (f : ℕ → ℕ). f 0) birth_of ∙ are.heap_birth;
    no_heap = are.no_heap;
    numbers = λ h some. ap (λ (f : ℕ → ℕ). names.number (f h)) birth_of ∙ are.numbers h some;
    low = λ h. let z = are.low h in let e = ap (λ (f : ℕ → ℕ). f h) birth_of in omega (arith, z, e, births);
    blocks = λ q of owned. subst (λ (f : ℕ → ℕ). put (suc l.births) (Some n) names.address (f q) ≡ Some q) (sym alone_birth)
        (block q of (nat_eq q n) (is_in_room n room q) refl refl owned);
    low_blocks = λ q. subst (λ (k : ℕ). m.alone_birth q ≤ k) (sym births)
        (subst (λ (f : ℕ → ℕ). f q ≤ suc l.births) (sym alone_birth) (lower q (nat_eq q n) refl));
  }
    where
      block : (q of : ℕ) (b inside : Bool) → nat_eq q n ≡ b → is_in_room n room q ≡ inside → owns n room (Alone n room) s.owner q ≡ Some (Alone q of)
          → put (suc l.births) (Some n) names.address (put n (suc l.births) l.alone_birth q) ≡ Some q
      block q of true inside e f owned = rw e (put_here (suc l.births) (Some n) names.address ∙ ap (λ (k : ℕ). Some k) (sym (equal q n e)))
      block q of false true e f owned =
          let is : Some (Alone n room) ≡ Some (Alone q of) = rw f at owned in
          let z : n ≡ q = cc in absurd (let y : nat_eq q q ≡ false = subst (λ (k : ℕ). nat_eq q k ≡ false) z e in let w : true ≡ false = sym (same q) ∙ y in cc)
      block q of false false e f owned =
          let was : s.owner q ≡ Some (Alone q of) = rw f at owned in
          rw e (put_there (suc l.births) (l.alone_birth q) (Some n) names.address (below (l.alone_birth q) l.births (are.low_blocks q)) ∙ are.blocks q of was)

      lower : (q : ℕ) (b : Bool) → nat_eq q n ≡ b → put n (suc l.births) l.alone_birth q ≤ suc l.births
      lower q true e = rw e (omega arith)
      lower q false e = rw e (let z = are.low_blocks q in omega (arith, z))

  pub dropped_named : (at room : ℕ) → s.owner at ≡ Some (Alone at room)
      → AreNamed (record names { address = put (l.alone_birth at) None names.address }) (without_alone at room s) l
  dropped_named at room owned = record {
    heap = are.heap;
    heap_birth = are.heap_birth;
    no_heap = are.no_heap;
    numbers = are.numbers;
    low = are.low;
    blocks = λ q of owns. block q of (is_alone at (s.owner q)) refl owns;
    low_blocks = are.low_blocks;
  }
    where
      block : (q of : ℕ) (b : Bool) → is_alone at (s.owner q) ≡ b → (if is_alone at (s.owner q) then None else s.owner q) ≡ Some (Alone q of)
          → put (l.alone_birth at) None names.address (l.alone_birth q) ≡ Some q
      block q of true e owns = absurd (let z : None ≡ Some (Alone q of) = rw e at owns in cc)
      block q of false e owns =
          let was : s.owner q ≡ Some (Alone q of) = rw e at owns in
          let other : nat_eq q at ≡ false = sym (ap (is_alone at) was) ∙ e in
          let differs : nat_eq (l.alone_birth q) (l.alone_birth at) ≡ false =
          ne_eqb (l.alone_birth q) (l.alone_birth at) (λ f.
          let z = same_Some q at (sym (are.blocks q of was) ∙ ap names.address f ∙ are.blocks at room owned) in
          let y : nat_eq at at ≡ false = subst (λ (j : ℕ). nat_eq j at ≡ false) z other in absurd (let w : true ≡ false = sym (same at) ∙ y in cc)) in
          put_there (l.alone_birth at) (l.alone_birth q) None names.address differs ∙ are.blocks q of was

  -- the number of what takes blocks
  pub taker_named : (h : ℕ) → takes_blocks h (s.standing h) ≡ true → names.number (l.birth_of h) ≡ Some h
  taker_named h takes = by (s.standing h) refl takes
    where
      by : (o : Option Standing) → s.standing h ≡ o → takes_blocks h o ≡ true → names.number (l.birth_of h) ≡ Some h
      by None e t =
          let is : h ≡ 0 = equal h 0 t in
          ap (λ (k : ℕ). names.number (l.birth_of k)) is ∙ ap names.number are.heap_birth ∙ are.heap ∙ ap (λ (k : ℕ). Some k) (sym is)
      by (Some x) e t = are.numbers h (ap is_some e)
