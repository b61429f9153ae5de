-- More fuel changes nothing of a run that is over, and what was seen with less fuel is seen with more.
use Rattle.std.proofs.Common.{◌≡◌, ℕ, zero, suc, ◌+◌, ◌-◌, ◌≤◌, Some, None, List, [], ◌∷◌, ◌++◌, refl, sym, ap, subst, ◌∙◌, arith}
use Rattle.std.proofs.lemmas.List.{append_assoc, append-nil}
use Rattle.step_trees.specs.Trees.{Tree, Stops, Says, Reads, Pays, Calls, Turns, Outcome, IsBeginning, IsOver, after, Rest, Bodies, walk, spend, run}

-- k units more
abbrev up_by : ℕ → ℕ → ℕ
up_by zero n = n
up_by (suc k) n = suc (up_by k n)

up_is : (k n : ℕ) → up_by k n ≡ n + k
up_is zero n = omega arith
up_is (suc k) n = let h = up_is k n in ap suc h ∙ omega arith

up_to : (n m : ℕ) → n ≤ m → up_by (m - n) n ≡ m
up_to n m le = up_is (m - n) n ∙ omega arith

pub beginning_of_itself : {Event : Type 0} → (o : Outcome Event) → IsBeginning o o
beginning_of_itself o = ([], append-nil o.events)

pub beginnings : {Event : Type 0} → (o p q : Outcome Event) → IsBeginning o p → IsBeginning p q → IsBeginning o q
beginnings o p q h k = (h.0 ++ k.0, sym (append_assoc o.events h.0 k.0) ∙ ap (λ es. es ++ k.0) h.1 ∙ k.1)

module _ {Event Call Result Memory Turn Flow State : Type 0} (b : Bodies Event Call Result Memory Turn Flow State) where
  -- where f is over, g is f
  abbrev Keeps : Rest Event Call Result Memory Turn Flow State → Rest Event Call Result Memory Turn Flow State → Type 0
  Keeps f g = (s : Tree Event Call Result Memory Turn Flow State) (i : List ℕ) → IsOver (f s i).ending → g s i ≡ f s i

  walk_keeps : (f g : Rest Event Call Result Memory Turn Flow State) → Keeps f g → Keeps (walk b f) (walk b g)
  walk_keeps f g k (Stops e) i over = refl
  walk_keeps f g k (Says ev s) i over = ap (after ev) (walk_keeps f g k s i over)
  walk_keeps f g k (Reads next) [] over = ap (after (b.read None)) (walk_keeps f g k (next None) [] over)
  walk_keeps f g k (Reads next) (x ∷ i) over = ap (after (b.read (Some x))) (walk_keeps f g k (next (Some x)) i over)
  walk_keeps f g k (Pays next m) i over = k (next m) i over
  walk_keeps f g k (Calls call next m) i over = k _ i over
  walk_keeps f g k (Turns turn next m) i over = k _ i over

  one_more_keeps : (n : ℕ) → Keeps (spend b n) (spend b (suc n))
  one_more_keeps zero s i over = absurd over
  one_more_keeps (suc n) s i over = walk_keeps (spend b n) (spend b (suc n)) (one_more_keeps n) s i over

  -- what is seen with f is the beginning of what is seen with g
  abbrev Grows : Rest Event Call Result Memory Turn Flow State → Rest Event Call Result Memory Turn Flow State → Type 0
  Grows f g = (s : Tree Event Call Result Memory Turn Flow State) (i : List ℕ) → IsBeginning (f s i) (g s i)

  walk_grows : (f g : Rest Event Call Result Memory Turn Flow State) → Grows f g → Grows (walk b f) (walk b g)
  walk_grows f g k (Stops e) i = ([], refl)
  walk_grows f g k (Says ev s) i = let h = walk_grows f g k s i in (h.0, ap (λ es. ev ∷ es) h.1)
  walk_grows f g k (Reads next) [] = let h = walk_grows f g k (next None) [] in (h.0, ap (λ es. b.read None ∷ es) h.1)
  walk_grows f g k (Reads next) (x ∷ i) = let h = walk_grows f g k (next (Some x)) i in (h.0, ap (λ es. b.read (Some x) ∷ es) h.1)
  walk_grows f g k (Pays next m) i = k (next m) i
  walk_grows f g k (Calls call next m) i = k (b.call call next m) i
  walk_grows f g k (Turns turn next m) i = k (b.turn turn next m) i

  one_more_grows : (n : ℕ) → Grows (spend b n) (spend b (suc n))
  one_more_grows zero s i = ((spend b (suc zero) s i).events, refl)
  one_more_grows (suc n) s i = walk_grows (spend b n) (spend b (suc n)) (one_more_grows n) s i

  module _ (s : Tree Event Call Result Memory Turn Flow State) (i : List ℕ) where
    keeps_by : (n k : ℕ) → IsOver (run b n s i).ending → run b (up_by k n) s i ≡ run b n s i
    keeps_by n zero over = refl
    keeps_by n (suc k) over =
        let h = keeps_by n k over in
        one_more_keeps (suc (up_by k n)) s i (subst (λ (o : Outcome Event). IsOver o.ending) (sym h) over) ∙ h

    grows_by : (n k : ℕ) → IsBeginning (run b n s i) (run b (up_by k n) s i)
    grows_by n zero = beginning_of_itself (run b n s i)
    grows_by n (suc k) =
        beginnings (run b n s i) (run b (up_by k n) s i) (run b (suc (up_by k n)) s i)
        (grows_by n k) (one_more_grows (suc (up_by k n)) s i)

    -- more fuel changes no run that was over
    pub run_stays : (n m : ℕ) → n ≤ m → IsOver (run b n s i).ending → run b m s i ≡ run b n s i
    run_stays n m le over = ap (λ k. run b k s i) (sym (up_to n m le)) ∙ keeps_by n (m - n) over

    -- what was seen with less fuel is seen first with more
    pub run_grows : (n m : ℕ) → n ≤ m → IsBeginning (run b n s i) (run b m s i)
    run_grows n m le = subst (λ (k : ℕ). IsBeginning (run b n s i) (run b k s i)) (up_to n m le) (grows_by n (m - n))
