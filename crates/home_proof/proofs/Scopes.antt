-- Names further in: what leads to a home in a block within, behind another declaration, and to a local that is declared just now.
use Rattle.std.proofs.Common.{◌≡◌, ℕ, zero, suc, ◌<◌, ◌≤◌, List, [], ◌∷◌, Bool, true, false, Option, Some, None, refl, sym, ap, ◌∙◌, subst, arith}
use Rattle.std.specs.Prelude.{◌||◌, ◌&&◌, not, nat_eq, bytes_eq, if◌then◌else◌}
use Rattle.std.proofs.lemmas.Bool.{eq-eqb, eqb-false, eqb-true, false_from_ne_true, false≢true, ne_eqb}
use Rattle.std.proofs.lemmas.Slice.Eq.{bytes_eq-Decides}
use Rattle.source_meaning.specs.Shapes.{Shape, UnsignedShape}
use Rattle.source_lowering.specs.Lowered.{Home, InBlock, Named, element_names, local_named}
use Rattle.source_lowering.specs.Programs.{further_out, named_here, one_out, outward}
use Rattle.type_proof.proofs.invariant.Layouts.{same_text}
use Rattle.home_proof.specs.Names.{is_word}
use Rattle.home_proof.proofs.Leads.{Leads, at_home, is_word_at, leads}

-- ---- numbers

next_eq : (a b : ℕ) → nat_eq (suc a) (suc b) ≡ nat_eq a b
next_eq a b = by (nat_eq a b) refl
  where
    by : (t : Bool) → nat_eq a b ≡ t → nat_eq (suc a) (suc b) ≡ t
    by true e = eq-eqb (suc a) (suc b) (ap suc (eqb-true a b e))
    by false e = ne_eqb (suc a) (suc b) (λ q. eqb-false a b e (omega (arith, q)))

-- ---- one block further in

abbrev pub moved : Option Named → Option Named
moved None = None
moved (Some l) = Some (one_out l)

named_outward : (names : List Named) (m : List ℕ) → local_named (outward names) m ≡ moved (local_named names m)
named_outward [] m = refl
named_outward (l ∷ ls) m = by (bytes_eq l.name m) (named_outward ls m)
  where
    by : (t : Bool) → local_named (outward ls) m ≡ moved (local_named ls m)
        → (if t then Some (one_out l) else local_named (outward ls) m) ≡ moved (if t then Some l else local_named ls m)
    by true h = refl
    by false h = h

leads_out : (l : Option Named) (out index : ℕ) → leads (suc out) index (moved l) ≡ leads out index l
leads_out None out index = refl
leads_out (Some l) out index = by l.home
  where
    by : (h : Home) → at_home (further_out h) (suc out) index ≡ at_home h out index
    by (InBlock o i) = ap (λ z. z && nat_eq i index) (next_eq o out)

word_out : (l : Option Named) (out index : ℕ) → is_word_at (suc out) index (moved l) ≡ is_word_at out index l
word_out None out index = refl
word_out (Some l) out index = by l.home
  where
    by : (h : Home) → (not (at_home (further_out h) (suc out) index) || is_word l.shape) ≡ (not (at_home h out index) || is_word l.shape)
    by (InBlock o i) = ap (λ z. not (z && nat_eq i index) || is_word l.shape) (next_eq o out)

none_here : (l : Option Named) (index : ℕ) → leads 0 index (moved l) ≡ false
none_here None index = refl
none_here (Some l) index = by l.home
  where
    by : (h : Home) → at_home (further_out h) 0 index ≡ false
    by (InBlock o i) = ap (λ z. z && nat_eq i index) (ne_eqb (suc o) 0 (λ q. omega (arith, q)))

pub leads_within : (names : List Named) (out index : ℕ) (name : List ℕ) (visible : Bool) → Leads names out index name visible
    → Leads (outward names) (suc out) index name visible
leads_within names out index name visible h = record {
  led = λ m. ap (λ z. leads (suc out) index z) (named_outward names m) ∙ (leads_out (local_named names m) out index ∙ h.led m);
  word = λ m. ap (λ z. is_word_at (suc out) index z) (named_outward names m) ∙ (word_out (local_named names m) out index ∙ h.word m);
}

-- ---- behind another declaration

-- a local of a block further out, or of an earlier number
abbrev pub IsBefore : (out index count : ℕ) → Type 0
IsBefore zero index count = index < count
IsBefore (suc out) index count = Unit {0}

pub not_there : (out index count : ℕ) → IsBefore out index count → (nat_eq 0 out && nat_eq count index) ≡ false
not_there zero index count h = ne_eqb count index (λ e. omega (arith, h, e))
not_there (suc out) index count h = ap (λ z. z && nat_eq count index) (ne_eqb 0 (suc out) (λ q. omega (arith, q)))

pub leads_behind : (names : List Named) (x : List ℕ) (s : Shape) (count out index : ℕ) (name : List ℕ) (visible : Bool) → IsBefore out index count
    → Leads names out index name visible → Leads (named_here x s count ∷ names) out index name (visible && not (bytes_eq x name))
leads_behind names x s count out index name visible before h = record {
  led = λ m. by m (bytes_eq x m) refl (bytes_eq x name) refl (bytes_eq m name) refl visible (h.led m);
  word = λ m. word_by m (bytes_eq x m) (h.word m);
}
  where
    here : (nat_eq 0 out && nat_eq count index) ≡ false
    here = not_there out index count before

    by : (m : List ℕ) (t : Bool) → bytes_eq x m ≡ t → (u : Bool) → bytes_eq x name ≡ u → (v : Bool) → bytes_eq m name ≡ v → (visible : Bool)
        → leads out index (local_named names m) ≡ (visible && v)
        → leads out index (if t then Some (named_here x s count) else local_named names m) ≡ ((visible && not u) && v)
    by m true e true f v g false h = here
    by m true e true f v g true h = here
    by m true e false f v g false h = here
    by m true e false f false g true h = here
    by m true e false f true g true h = absurd (false≢true (sym f ∙ subst (λ z. bytes_eq z name ≡ true) (sym ((bytes_eq-Decides x m).0 e)) g))
    by m false e true f v g false h = h
    by m false e true f false g true h = h
    by m false e true f true g true h =
        absurd (false≢true (sym e ∙ subst (λ z. bytes_eq x z ≡ true) ((bytes_eq-Decides x name).0 f ∙ sym ((bytes_eq-Decides m name).0 g)) (same_text x)))
    by m false e false f v g false h = h
    by m false e false f v g true h = h

    word_by : (m : List ℕ) (t : Bool) → is_word_at out index (local_named names m) ≡ true
        → is_word_at out index (if t then Some (named_here x s count) else local_named names m) ≡ true
    word_by m true h = ap (λ z. not z || is_word s) here
    word_by m false h = h

-- ---- the locals of a block that are declared so far

pub record AreBefore (names : List Named) (count : ℕ) : Type 0 where
  pub none : (index : ℕ) → count ≤ index → (m : List ℕ) → leads 0 index (local_named names m) ≡ false

word_elsewhere : (l : Option Named) (out index : ℕ) → leads out index l ≡ false → is_word_at out index l ≡ true
word_elsewhere None out index h = refl
word_elsewhere (Some l) out index h = ap (λ z. not z || is_word l.shape) h

pub outward_before : (names : List Named) → AreBefore (outward names) 0
outward_before names = record { none = λ index h m. ap (λ z. leads 0 index z) (named_outward names m) ∙ none_here (local_named names m) index }

pub nothing_before : AreBefore [] 0
nothing_before = record { none = λ index h m. refl }

pub behind_before : (names : List Named) (x : List ℕ) (s : Shape) (count : ℕ) → AreBefore names count → AreBefore (named_here x s count ∷ names) (suc count)
behind_before names x s count h = record { none = λ index less m. by index less m (bytes_eq x m) (h.none index (omega (arith, less)) m) }
  where
    by : (index : ℕ) → suc count ≤ index → (m : List ℕ) (t : Bool) → leads 0 index (local_named names m) ≡ false
        → leads 0 index (if t then Some (named_here x s count) else local_named names m) ≡ false
    by index less m true h = ne_eqb count index (λ e. omega (arith, less, e))
    by index less m false h = h

-- no name leads to a later local
pub leads_nowhere : (names : List Named) (count index : ℕ) → AreBefore names count → count ≤ index → Leads names 0 index [] false
leads_nowhere names count index h less = record {
  led = λ m. h.none index less m;
  word = λ m. word_elsewhere (local_named names m) 0 index (h.none index less m);
}

-- its name leads to a local that is declared just now
pub leads_here : (names : List Named) (x : List ℕ) (s : Shape) (count : ℕ) → AreBefore names count → is_word s ≡ true
    → Leads (named_here x s count ∷ names) 0 count x true
leads_here names x s count h is = record {
  led = λ m. by m (bytes_eq x m) refl (h.none count (omega arith) m);
  word = λ m. word_by m (bytes_eq x m) (word_elsewhere (local_named names m) 0 count (h.none count (omega arith) m));
}
  where
    other : (m : List ℕ) → bytes_eq x m ≡ false → bytes_eq m x ≡ false
    other m e = false_from_ne_true (bytes_eq m x) (λ g. false≢true (sym e ∙ subst (λ z. bytes_eq x z ≡ true) (sym ((bytes_eq-Decides m x).0 g)) (same_text x)))

    by : (m : List ℕ) (t : Bool) → bytes_eq x m ≡ t → leads 0 count (local_named names m) ≡ false
        → leads 0 count (if t then Some (named_here x s count) else local_named names m) ≡ bytes_eq m x
    by m true e h = eq-eqb count count refl ∙ sym (subst (λ z. bytes_eq z x ≡ true) ((bytes_eq-Decides x m).0 e) (same_text x))
    by m false e h = h ∙ sym (other m e)

    word_by : (m : List ℕ) (t : Bool) → is_word_at 0 count (local_named names m) ≡ true
        → is_word_at 0 count (if t then Some (named_here x s count) else local_named names m) ≡ true
    word_by m true g = ap (λ z. not (nat_eq count count) || z) is ∙ or_true (not (nat_eq count count))
      where
        or_true : (a : Bool) → (a || true) ≡ true
        or_true true = refl
        or_true false = refl
    word_by m false g = g

-- ---- the elements of an array that is made

pub leads_element : (names : List Named) (x : List ℕ) (out index : ℕ) (name : List ℕ) (visible : Bool) → Leads names out index name visible
    → Leads (element_names x names) (suc out) index name (visible && not (bytes_eq x name))
leads_element names x out index name visible h =
    leads_behind (outward names) x UnsignedShape 0 (suc out) index name visible tt (leads_within names out index name visible h)

pub leads_index : (names : List Named) (x : List ℕ) → Leads (element_names x names) 0 0 x true
leads_index names x = leads_here (outward names) x UnsignedShape 0 (outward_before names) refl
