-- A dynamic region does the same as its code: it is born closed and its key goes to a local; or a key opens it, while the key is lent, its handle goes to a
-- local, its key stays in a temporary, and it is closed on each way out of the block.
use Rattle.std.proofs.Common.{◌≡◌, ℕ, suc, ◌+◌, ◌<◌, List, [], ◌∷◌, ◌++◌, true, refl, sym, ap, ◌∙◌, subst, arith}
use Rattle.source_meaning.specs.Shapes.{Shape, HandleShape, KeyShape}
use Rattle.source_meaning.specs.Memory as source
use Rattle.source_meaning.specs.Memory.{HandleOf, KeyOf, Scalar, Spot, is_live}
use Rattle.source_meaning.specs.Steps as steps
use Rattle.source_meaning.specs.Steps.{Variable, Scope, Flow, Act, ◌>>=◌}
use Rattle.source_meaning.specs.Values.{read_cell}
use Rattle.source_meaning.specs.Places.{entity_of, with_binding}
use Rattle.source_meaning.specs.Regions.{Operand, in_region, key_closed, key_of, key_opened, lending, local_with, new_key, open_key, operand_of}
use Rattle.core_meaning.specs.Memory.{Birth}
use Rattle.core_meaning.specs.Core.{Do, MoreStatements, Put, KeyClose, KeyNew, KeyOpen, Statement, Statements}
use Rattle.core_meaning.specs.Steps as core_steps
use Rattle.core_meaning.specs.Steps.{Config, with_memory, with_temp}
use Rattle.core_meaning.specs.Meaning as meaning
use Rattle.source_lowering.specs.Lowered.{put}
use Rattle.source_lowering.specs.Simulation.{Grown, SameState, Next, Point, SameAt, around, first_in, nothing, within}
use Rattle.source_lowering.proofs.memory.Keeping.{fits_later, later_on, later_self, less_self}
use Rattle.source_lowering.proofs.Runs.{put_all}
use Rattle.source_lowering.proofs.values.Values.{other_temp, put_temp, temp_fits}
use Rattle.source_lowering.proofs.expressions.Making.{local_spot}
use Rattle.source_lowering.proofs.expressions.PointerReads.{IsPointer}
use Rattle.source_lowering.proofs.statements.Declaring.{local_with_same, with_local}
use Rattle.source_lowering.proofs.statements.Ways.{Onward, RunsAs, WaysOn, freed, ways_later}
use Rattle.source_lowering.proofs.statements.Blocks.{result_later}
use Rattle.source_lowering.proofs.statements.LexicalRegions.{fits_in_scope, in_scope_of, one_more}
use Rattle.source_lowering.proofs.statements.Aliasing.{after_block, lent_same}
use Rattle.source_lowering.proofs.regions.KeyRegions.{
  IsKeyed,
  close_agree,
  close_later,
  closed_born,
  closed_keyed,
  core_close,
  core_open,
  key_born,
  key_born_agree,
  key_born_later,
  key_born_same,
  key_closed_same,
  key_opened_same,
  keyed_later,
  open_agree,
  open_later,
  source_close,
  source_open,
}

-- ---- a new key

pub key_declared : (p : Point) (n : ℕ) (scope : Scope) (name : List ℕ) (shapes : List Shape) (result : Shape) (then_act : Scope → Act Flow)
    (others : List Statement) → scope.world ≡ p.world → scope.frame ≡ p.frame → p.pending ≡ KeyShape ∷ shapes
    → RunsAs (with_local p name KeyShape shapes) n p.frame result (then_act (with_binding scope name (Variable KeyShape (local_spot p.frame p.made)))) others
    → RunsAs p n p.frame result (new_key scope name then_act) ((Do (KeyNew p.regions.all) ∷ Do (Put 0 p.made 4 p.regions.all) ∷ []) ++ others)
key_declared p n scope name shapes result then_act others world frame pending more = record {
  same = λ m c next rest after fits ways.
      let r = m.births in
      let m1 = closed_born m in
      let c1 = with_temp d (Birth r) (with_memory (key_born c.memory) c) in
      let fits1 = temp_fits p m1 (with_memory (key_born c.memory) c) d (Birth r)
      (fits_later p m m1 c (with_memory (key_born c.memory) c) fits (key_born_agree p.world m c.memory fits.agree)
      (key_born_later (within p) m c.memory) refl (λ k less. refl)) (omega arith) in
      key_born_same p.world p.program n d m c (local_with scope name KeyShape (KeyOf r ∷ []) then_act next m1)
      (meaning.statements (MoreStatements (Do (Put 0 p.made 4 d)) (put others rest)) after) fits.agree
      (local_with_same p n (d + 1) d scope name KeyShape shapes (KeyOf r ∷ []) then_act next m1 c1 (put others rest) after world frame tt
      (omega arith) pending fits1
      (record {
        value = KeyOf r;
        alone = refl;
        shown = record { birth = r; value = refl; shown = ap (λ z. z ∷ []) (put_temp d (Birth r) (with_memory (key_born c.memory) c)) };
      })
      (record {
        above = omega arith;
        go = λ m2 c2 fits2 later2 temps2 active2.
            more.same m2 c2 next rest after fits2
            (ways_later p.world p.program n p.regions (around p p.frame) (around p p.frame) m m2 c c2 result next (meaning.statements rest after) after
            (less_self (around p p.frame))
            (later_on (around p p.frame) m m1 m2 c.memory c1.memory c2.memory (key_born_later (around p p.frame) m c.memory) later2) active2
            (λ k less. temps2 k (omega (arith, less)) ∙ other_temp d k (Birth r) (with_memory (key_born c.memory) c) less) ways);
      }));
}
  where
    d : ℕ
    d = p.regions.all

-- ---- a region that a key opens

-- the code at the beginning of the region's scope, and behind it
abbrev open_code : (d made : ℕ) → List Statement
open_code d made = Do (KeyOpen d) ∷ Do (Put 0 made 4 d) ∷ []

abbrev pub close_code : ℕ → List Statement
close_code d = Do (KeyClose d) ∷ []

-- what comes after the region's scope in the source
abbrev after_scope : (Flow → source.Memory → steps.Step) → ℕ → Flow → source.Memory → steps.Step
after_scope next r flow = key_closed r (λ u. next flow)

-- the region is closed on each way out
ways_closed : (p : Point) (n r : ℕ) (result : Shape) (m0 m : source.Memory) (c0 c : Config) (next : Flow → source.Memory → steps.Step) (rest : Statements)
    (after : Next) → IsKeyed c.memory r → c.temps p.regions.all ≡ Birth r → Onward p.world p.regions.all (around p p.frame) m0 c0 m c
    → WaysOn p.world p.program n p.regions (around p p.frame) m0 c0 result next (meaning.statements rest after) after
    → WaysOn p.world p.program n (one_more true p.regions) (around p p.frame) m c result (after_scope next r)
    (meaning.statements (put (close_code p.regions.all) rest) after) after
ways_closed p n r result m0 m c0 c next rest after keyed temp onward ways = record {
  falls = λ m' c' o.
      key_closed_same p.world p.program n d r m' c' (λ u. next steps.Falls) (meaning.statements rest after) o.agree (still m' c' o.later).dynamic
      (held c' o.kept) (λ live. ways.falls (source_close m' r) (out c') (on m' c' o live));
  breaks = λ m' c' o.
      key_closed_same p.world p.program n d r m' c' (λ u. next steps.Breaks) (freed p.regions.opened d p.regions.broken (after core_steps.Breaks)) o.agree
      (still m' c' o.later).dynamic (held c' o.kept) (λ live. ways.breaks (source_close m' r) (out c') (on m' c' o live));
  continues = λ m' c' o.
      key_closed_same p.world p.program n d r m' c' (λ u. next steps.Continues) (freed p.regions.opened d p.regions.continued (after core_steps.Continues))
      o.agree (still m' c' o.later).dynamic (held c' o.kept) (λ live. ways.continues (source_close m' r) (out c') (on m' c' o live));
  returns = λ m' c' vs xs o given.
      key_closed_same p.world p.program n d r m' c' (λ u. next (steps.Returns vs)) (freed p.regions.opened d d (after (core_steps.Returns xs))) o.agree
      (still m' c' o.later).dynamic (held c' o.kept)
      (λ live.
      ways.returns (source_close m' r) (out c') vs xs (on m' c' o live)
      (result_later nothing p.world m' (source_close m' r) c'.memory (out c').memory result vs xs
      (close_later nothing p.world m' c'.memory r o.agree (still m' c' o.later) live) given));
}
  where
    d : ℕ
    d = p.regions.all

    out : Config → Config
    out c' = with_memory (core_close c'.memory r) c'

    still : (m' : source.Memory) (c' : Config) → Grown (around p p.frame) m c.memory m' c'.memory → IsKeyed c'.memory r
    still m' c' l = keyed_later (around p p.frame) m m' c.memory c'.memory r keyed l

    held : (c' : Config) → ((k : ℕ) → k < suc d → c'.temps k ≡ c.temps k) → c'.temps d ≡ Birth r
    held c' kept = kept d (omega arith) ∙ temp

    on : (m' : source.Memory) (c' : Config) → Onward p.world (suc d) (around p p.frame) m c m' c' → is_live m' (source.Born r) ≡ true
        → Onward p.world d (around p p.frame) m0 c0 (source_close m' r) (out c')
    on m' c' o live = record {
      agree = close_agree p.world m' c'.memory r o.agree (still m' c' o.later) live;
      later =
          later_on (around p p.frame) m0 m' (source_close m' r) c0.memory c'.memory (out c').memory
          (later_on (around p p.frame) m0 m m' c0.memory c.memory c'.memory onward.later o.later)
          (close_later (around p p.frame) p.world m' c'.memory r o.agree (still m' c' o.later) live);
      active = o.active ∙ onward.active;
      kept = λ k less. o.kept k (omega (arith, less)) ∙ onward.kept k less;
    }

-- the region of a key, whose number is in a temporary
abbrev region_of : Scope → List ℕ → (Scope → Act Flow) → ℕ → Act Flow
region_of scope name then_act r = in_region (key_opened r) key_closed (λ q. local_with scope name HandleShape (HandleOf q ∷ []) then_act)

region_opened : (p : Point) (n r : ℕ) (scope : Scope) (name : List ℕ) (shapes : List Shape) (result : Shape) (then_act : Scope → Act Flow)
    (others : List Statement) (m : source.Memory) (c : Config) (next : Flow → source.Memory → steps.Step) (rest : Statements) (after : Next)
    → scope.world ≡ p.world → scope.frame ≡ p.frame → p.pending ≡ HandleShape ∷ shapes → SameState p m c → c.temps p.regions.all ≡ Birth r
    → RunsAs (in_scope_of true p name shapes) n p.frame result (then_act (with_binding scope name (Variable HandleShape (local_spot p.frame p.made)))) others
    → WaysOn p.world p.program n p.regions (around p p.frame) m c result next (meaning.statements rest after) after
    → SameAt p n (region_of scope name then_act r next m)
    (meaning.statements (put (open_code p.regions.all p.made) (put (others ++ close_code p.regions.all) rest)) after c)
region_opened p n r scope name shapes result then_act others m c next rest after world frame pending fits temp more ways =
    key_opened_same p.world p.program n d r m c (λ q. local_with scope name HandleShape (HandleOf q ∷ []) then_act (after_scope next q))
    (meaning.statements (MoreStatements (Do (Put 0 p.made 4 d)) inside) after) fits.agree temp
    (λ closed.
    let m1 = source_open m r in
    let c1 = with_memory (core_open c.memory r) c in
    let later1 = open_later (around p p.frame) p.world m c.memory r fits.agree closed in
    let fits1 = fits_later p m m1 c c1 fits (open_agree p.world m c.memory r fits.agree closed)
    (open_later (within p) p.world m c.memory r fits.agree closed) refl (λ k less. refl) in
    local_with_same p n (d + 1) d scope name HandleShape shapes (HandleOf r ∷ []) then_act (after_scope next r) m1 c1 inside after world frame tt
    (omega arith) pending fits1
    (record { value = HandleOf r; alone = refl; shown = record { birth = r; value = refl; shown = ap (λ z. z ∷ []) temp } })
    (record {
      above = omega arith;
      go = λ m2 c2 fits2 later2 temps2 active2.
          subst (λ z. SameAt p n (then_act (with_binding scope name (Variable HandleShape (local_spot p.frame p.made))) (after_scope next r) m2)
          (meaning.statements z after c2)) (sym (put_all others (close_code d) rest))
          (more.same m2 c2 (after_scope next r) (put (close_code d) rest) after (fits_in_scope true p name shapes m2 c2 fits2)
          (ways_closed p n r result m m2 c c2 next rest after
          (keyed_later (around p p.frame) m1 m2 c1.memory c2.memory r
          (keyed_later (around p p.frame) m m1 c.memory c1.memory r (closed_keyed p.world m c.memory r fits.agree closed) later1) later2)
          (temps2 d (omega arith) ∙ temp)
          (record {
            agree = fits2.agree;
            later = later_on (around p p.frame) m m1 m2 c.memory c1.memory c2.memory later1 later2;
            active = active2;
            kept = λ k less. temps2 k (omega (arith, less));
          }) ways));
    }))
  where
    d : ℕ
    d = p.regions.all

    inside : Statements
    inside = put (others ++ close_code d) rest

-- ---- both do the same

-- what is done with a key that was found
abbrev opened_at : Scope → List ℕ → Spot → (Scope → Act Flow) → Act Flow
opened_at scope name t then_act = read_cell t >>= λ v. key_of v >>= λ r. lending t v (region_of scope name then_act r)

abbrev behind : Scope → List ℕ → (Scope → Act Flow) → Operand → Act Flow
behind scope name then_act x = opened_at scope name x.at then_act

abbrev first_of : List Scalar → Scalar
first_of [] = KeyOf 0
first_of (v ∷ vs) = v

pub open_declared : (p : Point) (n : ℕ) (scope : Scope) (name key : List ℕ) (code : List Statement) (shapes : List Shape) (result : Shape)
    (then_act : Scope → Act Flow) (others : List Statement) → scope.world ≡ p.world → scope.frame ≡ p.frame
    → IsPointer p n p.regions.all (entity_of scope key) KeyShape code → p.pending ≡ HandleShape ∷ shapes
    → RunsAs (in_scope_of true p name shapes) n p.frame result (then_act (with_binding scope name (Variable HandleShape (local_spot p.frame p.made)))) others
    → RunsAs p n p.frame result (open_key scope name key then_act)
    ((code ++ (Do (KeyOpen p.regions.all) ∷ Do (Put 0 p.made 4 p.regions.all) ∷ [])) ++ (others ++ close_code p.regions.all))
open_declared p n scope name key code shapes result then_act others world frame named pending more = record {
  same = λ m c next rest after fits ways.
      subst (λ z. SameAt p n ((operand_of z >>= behind scope name then_act) next m)
      (meaning.statements (put ((code ++ open_code d p.made) ++ (others ++ close_code d)) rest) after c)) (sym named.is)
      (subst (λ z. SameAt p n (opened_at scope name t then_act next m) (meaning.statements z after c))
      (sym (put_all (code ++ open_code d p.made) (others ++ close_code d) rest ∙ put_all code (open_code d p.made) (put (others ++ close_code d) rest)))
      (named.reads.same m c (λ vs. key_of (first_of vs) (λ r. lending t (first_of vs) (region_of scope name then_act r) next))
      (put (open_code d p.made) (put (others ++ close_code d) rest)) after fits
      (λ v temps holds live kept shown.
      let c1 : Config = record c { temps = temps } in
      let step : core_steps.Step = meaning.statements (put (open_code d p.made) (put (others ++ close_code d) rest)) after c1 in
      subst (λ z. SameAt p n (key_of z (λ r. lending t v (region_of scope name then_act r) next) m) step) (sym shown.value)
      (lent_same p n t KeyShape v result (region_of scope name then_act shown.birth) m c1 next rest after step
      (fits_later p m m c c1 fits fits.agree (later_self (within p) m c.memory) refl kept) holds live
      (ways_later p.world p.program n p.regions (around p p.frame) (around p p.frame) m m c c1 result next (meaning.statements rest after) after
      (less_self (around p p.frame)) (later_self (around p p.frame) m c.memory) refl kept ways)
      (λ m1 later1 fits1 ways1.
      region_opened p n shown.birth scope name shapes result then_act others m1 c1 (after_block next t v) rest after world frame pending fits1
      (ap (first_in (temps d)) shown.shown) more ways1)))));
}
  where
    d : ℕ
    d = p.regions.all

    t : Spot
    t = named.spot
