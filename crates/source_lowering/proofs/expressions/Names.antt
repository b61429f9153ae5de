-- A name is found by lowering where the source finds it.
use Rattle.std.proofs.Common.{◌≡◌, ℕ, suc, ◌⊎◌, inl, inr, ⊎_elim, List, [], ◌∷◌, Bool, true, false, Some, None, refl, sym, ap, ◌∙◌, subst}
use Rattle.std.specs.Prelude.{slice_get, bytes_eq, if◌then◌else◌}
use Rattle.source_meaning.specs.Shapes.{Shape, Part, Layout}
use Rattle.source_meaning.specs.Memory as source
use Rattle.source_meaning.specs.Steps.{World, Variable, Binding, Routine}
use Rattle.source_meaning.specs.Places.{bound_to}
use Rattle.source_meaning.specs.Calls.{function_of}
use Rattle.source_meaning.specs.Programs.{is_main, heap_spot}
use Rattle.source_meaning.specs.Shapes.{IntShape}
use Rattle.core_meaning.specs.Memory as core
use Rattle.source_lowering.specs.Lowered.{Home, InBlock, Named, local_named, number_of}
use Rattle.source_lowering.specs.Lowerable.{IsVariable, AreUnions, AreStructs, TakesBody}
use Rattle.source_lowering.specs.Simulation.{VariableLeads, IsLed, AreLed, StandsFor, IsLocal, AreLocals}
use Rattle.source_lowering.proofs.values.Integers.{IsTaken, IsValueShape}
use Rattle.source_lowering.proofs.expressions.Making.{local_spot}

-- ---- what is known of the program's names

abbrev pub AreObjectNames : (unions structs : List Layout) → List Named → Type 0
AreObjectNames unions structs [] = Unit {0}
AreObjectNames unions structs (l ∷ ls) = IsVariable unions structs l.shape × AreObjectNames unions structs ls

pub record IsGlobal (unions structs : List Layout) (b : Binding) : Type 0 where
  pub shape : Shape
  pub number : ℕ
  pub is : b.entity ≡ Variable shape (heap_spot number)
  pub is_variable : IsVariable unions structs shape

abbrev pub AreGlobals : (unions structs : List Layout) → List Binding → Type 0
AreGlobals unions structs [] = Unit {0}
AreGlobals unions structs (b ∷ bs) = IsGlobal unions structs b × AreGlobals unions structs bs

abbrev pub AreParameters : List Part → Type 0
AreParameters [] = Unit {0}
AreParameters (p ∷ ps) = IsValueShape p.shape × AreParameters ps

pub record IsRoutine (w : World) (f : Routine) : Type 0 where
  pub result : IsTaken f.result
  pub main : is_main f.name ≡ true → f.result ≡ IntShape
  pub parameters : AreParameters f.parameters
  pub body : TakesBody w f

abbrev pub AreRoutines : World → List Routine → Type 0
AreRoutines w [] = Unit {0}
AreRoutines w (f ∷ fs) = IsRoutine w f × AreRoutines w fs

-- a program of words, unions and structs alone
pub record IsPlainWorld (w : World) : Type 0 where
  pub unions : AreUnions w.unions
  pub structs : AreStructs w.unions w.structs
  pub globals : AreGlobals w.unions w.structs w.globals
  pub functions : AreRoutines w w.functions

-- ---- locals

-- a variable of a block
pub record FoundLocal (unions structs : List Layout) (blocks : List ℕ) (bs : List Binding) (ls : List Named) (name : List ℕ) : Type 0 where
  pub key : List ℕ
  pub shape : Shape
  pub out : ℕ
  pub index : ℕ
  pub frame : ℕ
  pub found : local_named ls name ≡ Some (record { name = key; shape = shape; home = InBlock out index })
  pub bound : bound_to bs name ≡ Some (Variable shape (local_spot frame index))
  pub in_block : slice_get blocks out ≡ Some frame
  pub is_variable : IsVariable unions structs shape
  pub led : (v : World) (m : source.Memory) (c : core.Memory) → AreLed v m c bs → VariableLeads v m c shape (local_spot frame index)

pub record MissingLocal (bs : List Binding) (ls : List Named) (name : List ℕ) : Type 0 where
  pub found : local_named ls name ≡ None
  pub bound : bound_to bs name ≡ None

abbrev pub Found : (unions structs : List Layout) (blocks : List ℕ) (bs : List Binding) (ls : List Named) (name : List ℕ) → Type 0
Found unions structs blocks bs ls name = FoundLocal unions structs blocks bs ls name ⊎ MissingLocal bs ls name

pub find_local : (unions structs : List Layout) (blocks : List ℕ) (bs : List Binding) (ls : List Named) (name : List ℕ) → AreLocals blocks bs ls
    → AreObjectNames unions structs ls → Found unions structs blocks bs ls name
find_local unions structs blocks [] [] name all integers = inr (record { found = refl; bound = refl })
find_local unions structs blocks [] (l ∷ ls) name all integers = absurd all
find_local unions structs blocks (b ∷ bs) [] name all integers = absurd all
find_local unions structs blocks (b ∷ bs) (l ∷ ls) name all integers =
    by (bytes_eq l.name name) refl (find_local unions structs blocks bs ls name all.1 integers.1)
  where
    one : IsLocal blocks b l
    one = all.0

    other : bytes_eq l.name name ≡ false → Found unions structs blocks bs ls name → Found unions structs blocks (b ∷ bs) (l ∷ ls) name
    other e rest =
        let same : bytes_eq b.name name ≡ false = ap (λ z. bytes_eq z name) one.named ∙ e in
        ⊎_elim
        (λ (f : FoundLocal unions structs blocks bs ls name). inl (record {
          key = f.key;
          shape = f.shape;
          out = f.out;
          index = f.index;
          frame = f.frame;
          found = ap (λ z. if z then Some l else local_named ls name) e ∙ f.found;
          bound = ap (λ z. if z then Some b.entity else bound_to bs name) same ∙ f.bound;
          in_block = f.in_block;
          is_variable = f.is_variable;
          led = λ w m c h. f.led w m c h.1;
        }))
        (λ (f : MissingLocal bs ls name). inr (record {
          found = ap (λ z. if z then Some l else local_named ls name) e ∙ f.found;
          bound = ap (λ z. if z then Some b.entity else bound_to bs name) same ∙ f.bound;
        }))
        rest

    here : bytes_eq l.name name ≡ true → (h : Home) → l.home ≡ h → StandsFor blocks b.entity l.shape h → Found unions structs blocks (b ∷ bs) (l ∷ ls) name
    here e (InBlock out index) is stands = inl (record {
      key = l.name;
      shape = l.shape;
      out = out;
      index = index;
      frame = stands.frame;
      found = ap (λ z. if z then Some l else local_named ls name) e ∙ ap (λ z. Some (record { name = l.name; shape = l.shape; home = z })) is;
      bound = ap (λ z. if z then Some b.entity else bound_to bs name) (ap (λ z. bytes_eq z name) one.named ∙ e) ∙ ap (λ z. Some z) stands.is;
      in_block = stands.in_block;
      is_variable = integers.0;
      led = λ w m c h. subst (λ z. IsLed w m c z) stands.is h.0;
    })

    by : (t : Bool) → bytes_eq l.name name ≡ t → Found unions structs blocks bs ls name → Found unions structs blocks (b ∷ bs) (l ∷ ls) name
    by true e rest = here e l.home refl one.stands
    by false e rest = other e rest

-- ---- globals

pub record FoundGlobal (unions structs : List Layout) (bs : List Binding) (name : List ℕ) : Type 0 where
  pub shape : Shape
  pub number : ℕ
  pub bound : bound_to bs name ≡ Some (Variable shape (heap_spot number))
  pub is_variable : IsVariable unions structs shape
  pub led : (v : World) (m : source.Memory) (c : core.Memory) → AreLed v m c bs → VariableLeads v m c shape (heap_spot number)

pub find_global : (unions structs : List Layout) (bs : List Binding) (name : List ℕ) → AreGlobals unions structs bs
    → FoundGlobal unions structs bs name ⊎ (bound_to bs name ≡ None)
find_global unions structs [] name all = inr refl
find_global unions structs (b ∷ bs) name all = by (bytes_eq b.name name) refl (find_global unions structs bs name all.1)
  where
    other : bytes_eq b.name name ≡ false → FoundGlobal unions structs bs name ⊎ (bound_to bs name ≡ None)
        → FoundGlobal unions structs (b ∷ bs) name ⊎ (bound_to (b ∷ bs) name ≡ None)
    other e rest =
        ⊎_elim
        (λ (f : FoundGlobal unions structs bs name). inl (record {
          shape = f.shape;
          number = f.number;
          bound = ap (λ z. if z then Some b.entity else bound_to bs name) e ∙ f.bound;
          is_variable = f.is_variable;
          led = λ w m c h. f.led w m c h.1;
        }))
        (λ (f : bound_to bs name ≡ None). inr (ap (λ z. if z then Some b.entity else bound_to bs name) e ∙ f))
        rest

    by : (t : Bool) → bytes_eq b.name name ≡ t → FoundGlobal unions structs bs name ⊎ (bound_to bs name ≡ None)
        → FoundGlobal unions structs (b ∷ bs) name ⊎ (bound_to (b ∷ bs) name ≡ None)
    by true e rest = inl (record {
      shape = all.0.shape;
      number = all.0.number;
      bound = ap (λ z. if z then Some b.entity else bound_to bs name) e ∙ ap (λ z. Some z) all.0.is;
      is_variable = all.0.is_variable;
      led = λ w m c h. subst (λ z. IsLed w m c z) all.0.is h.0;
    })
    by false e rest = other e rest

-- ---- functions

pub record FoundFunction (w : World) (fs : List Routine) (name : List ℕ) : Type 0 where
  pub routine : Routine
  pub found : function_of fs name ≡ Some routine
  pub numbered : slice_get fs (number_of fs name) ≡ Some routine
  pub is : IsRoutine w routine

pub find_function : (w : World) (fs : List Routine) (name : List ℕ) → AreRoutines w fs → FoundFunction w fs name ⊎ (function_of fs name ≡ None)
find_function w [] name all = inr refl
find_function w (f ∷ fs) name all = by (bytes_eq f.name name) refl (find_function w fs name all.1)
  where
    other : bytes_eq f.name name ≡ false → FoundFunction w fs name ⊎ (function_of fs name ≡ None)
        → FoundFunction w (f ∷ fs) name ⊎ (function_of (f ∷ fs) name ≡ None)
    other e rest =
        ⊎_elim
        (λ (g : FoundFunction w fs name). inl (record {
          routine = g.routine;
          found = ap (λ z. if z then Some f else function_of fs name) e ∙ g.found;
          numbered = ap (λ z. slice_get (f ∷ fs) (if z then 0 else suc (number_of fs name))) e ∙ g.numbered;
          is = g.is;
        }))
        (λ (g : function_of fs name ≡ None). inr (ap (λ z. if z then Some f else function_of fs name) e ∙ g))
        rest

    by : (t : Bool) → bytes_eq f.name name ≡ t → FoundFunction w fs name ⊎ (function_of fs name ≡ None)
        → FoundFunction w (f ∷ fs) name ⊎ (function_of (f ∷ fs) name ≡ None)
    by true e rest = inl (record {
      routine = f;
      found = ap (λ z. if z then Some f else function_of fs name) e;
      numbered = ap (λ z. slice_get (f ∷ fs) (if z then 0 else suc (number_of fs name))) e;
      is = all.0;
    })
    by false e rest = other e rest
