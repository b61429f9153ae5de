-- Calls run safely: of the two functions that every program has, and of the program's own.
use Rattle.std.proofs.Common.{◌≡◌, ℕ, zero, suc, Option, List, [], ◌∷◌, sym, ap, subst}
use Rattle.std.specs.Prelude.{map, ◌%◌}
use Rattle.source_meaning.specs.Shapes.{Shape, IntShape}
use Rattle.source_meaning.specs.Memory.{Region, Scalar, Integer, AsInt, Memory}
use Rattle.source_meaning.specs.Steps.{Scope, Step, Act, give, ◌>>=◌, ◌>>◌}
use Rattle.step_trees.specs.Trees.{Reads, Pays}
use Rattle.source_meaning.specs.Conversions.{converted}
use Rattle.source_meaning.specs.Places.{Sense}
use Rattle.source_meaning.specs.Calls.{converted_all, read_byte, write_byte, byte_value}
use Rattle.source_meaning.specs.Calls as calls
use Rattle.source_typing.specs.Scope.{Env}
use Rattle.source_typing.specs.Types.{StaticType, Int, renamed}
use Rattle.source_typing.specs.Moves.{Use, nothing}
use Rattle.source_typing.specs.States.{States, Passed, passed, then_passed}
use Rattle.type_proof.specs.Flat.{Tables}
use Rattle.type_proof.proofs.invariant.Invariant.{Ghost, Inv}
use Rattle.type_proof.proofs.invariant.Growth.{grows_refl, grows_trans, grows_less}
use Rattle.type_proof.proofs.invariant.Runs.{Safe, Runs, safe_less, safe_says}
use Rattle.type_proof.proofs.invariant.After.{After, flying, flight_kept}
use Rattle.type_proof.proofs.invariant.Arguments.{Flown}
use Rattle.type_proof.proofs.invariant.Names.{NameOf}
use Rattle.type_proof.proofs.invariant.Standing.{Standing}
use Rattle.type_proof.proofs.invariant.Scenes.{Scene, scene_later, scene_more}
use Rattle.type_proof.proofs.invariant.Sound.{cells_type, GivesBy, none_first, none_second}
use Rattle.type_proof.proofs.expressions.Integers.{integer_typed}

-- ---- units and bytes

pub safe_pays : (n : ℕ) (next : Memory → Step) (m : Memory) → Safe n (next m) → Safe n (Pays next m)
safe_pays zero next m h = tt
safe_pays (suc n) next m h = safe_less n (next m) h

pub safe_reads : (n : ℕ) (next : Option ℕ → Step) → ((b : Option ℕ) → Safe n (next b)) → Safe n (Reads next)
safe_reads zero next h = tt
safe_reads (suc n) next h = h

-- ---- arguments

-- what arguments do to the states, one after another
abbrev pub all_values : List Use → States → Passed
all_values [] s = passed [] s
all_values (u ∷ us) s = then_passed (u.value s) (all_values us)

module _ (n : ℕ) (d : Tables) (g : Env) (scope : Scope) (f : NameOf → Region) (b : ℕ) (low : ℕ) where
  -- each argument gives a value of its parameter's type, once it is converted
  abbrev pub AllPass : List Shape → List StaticType → List Use → List Sense → Type 0
  AllPass [] [] [] [] = Unit {0}
  AllPass (s ∷ ss) (t ∷ ts) (u ∷ us) (e ∷ es) = GivesBy n d g scope f b low u.value t (e.value >>= converted scope.world s e.shape) × AllPass ss ts us es
  AllPass _ _ _ _ = ⊥

  -- what they give is on its way together, the first of them with the number k
  abbrev pub Passes : States → States → List StaticType → Act (List (List Scalar)) → Type 0
  Passes s s2 ts act = (k : ℕ) (w : Ghost) (m : Memory) → Inv d w m → Scene d g scope f b low s k w m
      → Runs n act m (λ vss. After d k b w m (λ w' m'. Flown d w' k vss (map (renamed f) ts) × Standing d g scope f s2 w' m'))

  -- what one of them moved the next ones don't find
  pub all_passed : (ss : List Shape) (ts : List StaticType) (us : List Use) (es : List Sense) → AllPass ss ts us es → (s : States) → (all_values us s).faults
      ≡ []
      → Passes s (all_values us s).states ts (converted_all scope.world ss es)
  all_passed [] [] [] [] h s z = λ k w m i x. record {
    by = λ next q. q [] m (record { ghost = w; inv = i; grows = grows_refl k b w m; holds = (tt, x.stands) });
  }
  all_passed (sh ∷ ss) (t ∷ ts) (u ∷ us) (e ∷ es) h s z = λ k w m i x.
      let p : Passed = u.value s in
      record {
        by = λ next q. (h.0 s (none_first p.faults (all_values us p.states).faults z) k w m i x).by
            (λ vs. (converted_all scope.world ss es >>= λ vss. give (vs ∷ vss)) next) (λ vs m1 y.
            let x1 : Scene d g scope f b low p.states (suc k) y.ghost m1 =
            scene_more d g scope f b low p.states k y.ghost m1 (scene_later d g scope f b low s p.states k w m y.ghost m1 y.inv y.grows y.holds.1 x) in
            (all_passed ss ts us es h.1 p.states (none_second p.faults (all_values us p.states).faults z) (suc k) y.ghost m1 y.inv x1).by
            (λ vss. next (vs ∷ vss)) (λ vss m2 a. q (vs ∷ vss) m2 (record {
              ghost = a.ghost;
              inv = a.inv;
              grows = grows_trans y.grows (grows_less a.grows);
              holds = ((flight_kept d k b y.ghost m1 a.ghost m2 vs (cells_type d f t) y.inv a.grows y.holds.0, a.holds.0), a.holds.1);
            })));
      }
  all_passed [] [] [] (e ∷ es) h s z = absurd h
  all_passed [] [] (u ∷ us) es h s z = absurd h
  all_passed [] (t ∷ ts) us es h s z = absurd h
  all_passed (sh ∷ ss) [] us es h s z = absurd h
  all_passed (sh ∷ ss) (t ∷ ts) [] es h s z = absurd h
  all_passed (sh ∷ ss) (t ∷ ts) (u ∷ us) [] h s z = absurd h

  -- ---- the two functions that every program has

  pub gives_byte : GivesBy n d g scope f b low nothing Int (read_byte [])
  gives_byte = λ s e k w m i x. record {
    by = λ next q.
        safe_pays n (λ m'. Reads (λ c. next (Integer AsInt (byte_value c) ∷ []) m')) m
        (safe_reads n (λ c. next (Integer AsInt (byte_value c) ∷ []) m) (λ c. q (Integer AsInt (byte_value c) ∷ []) m (record {
          ghost = w;
          inv = i;
          grows = grows_refl k b w m;
          holds = (integer_typed d f w (flying k 0) AsInt (byte_value c), x.stands);
        })));
  }

  -- one integer that was passed
  one_word : (w : Ghost) (k : ℕ) (vss : List (List Scalar)) → Flown d w k vss (Int ∷ []) → (x : ℕ) × (vss ≡ (Integer AsInt x ∷ []) ∷ [])
  one_word w k [] h = absurd h
  one_word w k ([] ∷ vss) h = absurd h.0
  one_word w k ((v ∷ u ∷ vs) ∷ vss) h = absurd h.0.1
  one_word w k ((v ∷ []) ∷ vs ∷ vss) h = absurd h.1
  one_word w k ((v ∷ []) ∷ []) h = (h.0.0.word, ap (λ (x : Scalar). (x ∷ []) ∷ []) h.0.0.is)

  pub gives_written : (us : List Use) (es : List Sense) → AllPass (IntShape ∷ []) (Int ∷ []) us es
      → GivesBy n d g scope f b low (all_values us) Int (write_byte scope.world es)
  gives_written us es h = λ s e k w m i x. record {
    by = λ next q. (all_passed (IntShape ∷ []) (Int ∷ []) us es h s e k w m i x).by (λ vss. put vss next) (λ vss m1 y.
        let z : (p : ℕ) × (vss ≡ (Integer AsInt p ∷ []) ∷ []) = one_word y.ghost k vss y.holds.0 in
        subst (λ (us : List (List Scalar)). Safe n (put us next m1)) (sym z.1)
        (safe_pays n _ m1 (safe_says n _ _ (q (Integer AsInt (z.0 % 256) ∷ []) m1 (record {
          ghost = y.ghost;
          inv = y.inv;
          grows = y.grows;
          holds = (integer_typed d f y.ghost (flying k 0) AsInt (z.0 % 256), y.holds.1);
        })))));
  }
    where
      put : List (List Scalar) → Act (List Scalar)
      put vss = Rattle.source_meaning.specs.Conversions.one (calls.flat vss) >>= Rattle.source_meaning.specs.Conversions.integer >>= λ x.
          Rattle.source_meaning.specs.Steps.pay >> (Rattle.source_meaning.specs.Steps.show (Rattle.cyc_words.specs.Events.ByteWritten (x % 256)) >> give
          (Integer AsInt (x % 256) ∷ []))
