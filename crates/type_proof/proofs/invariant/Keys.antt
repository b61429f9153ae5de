-- A key's region is open, and the key is lent, while the rest of a block runs.
use Rattle.std.proofs.Common.{◌≡◌, ℕ, suc, Bool, true, inl, inr, Some, refl, sym, ◌∙◌, ap, subst, arith}
use Rattle.cyc_words.specs.Events.{KeyOpen, KeyClose}
use Rattle.source_meaning.specs.Memory.{Region, Born, Spot, Scalar, KeyOf, Holds, Lent, State, Live, Closed, Memory, with_cell, with_state, cell_at, is_live}
use Rattle.source_meaning.specs.Memory.{is_closed, state_is_live, state_is_closed}
use Rattle.source_meaning.specs.Steps.{Step, Flow, Act, give, ◌>>=◌, ◌>>◌, show, finally}
use Rattle.source_meaning.specs.Values.{read_cell, put_content}
use Rattle.source_meaning.specs.Regions.{in_region, lending, key_of, key_opened, key_closed}
use Rattle.source_typing.specs.Types.{Key, shape_of}
use Rattle.type_proof.specs.Flat.{Tables}
use Rattle.type_proof.proofs.invariant.Facts.{at_region, at_spot, same_at, same_here}
use Rattle.type_proof.proofs.invariant.Invariant.{Owner, Nobody, Flying, Returned, Pinned, InCell, Private, Ghost, Locks, HasType, CellOk}
use Rattle.type_proof.proofs.invariant.Invariant.{Steady, ByLoan, Resting, StateOk, Known, Inv, Grows}
use Rattle.type_proof.proofs.invariant.Moves.{out_of, into, owned_by, Turns, inv_turn, Alone}
use Rattle.type_proof.proofs.invariant.Births.{known_live}
use Rattle.type_proof.proofs.invariant.Growth.{grows_trans, grows_less, grows_turn, loan_alone}
use Rattle.type_proof.proofs.invariant.Runs.{Safe, Runs, runs_check}
use Rattle.type_proof.proofs.invariant.Cells.{cell, seen, runs_read, runs_put, stored, inv_stored, grows_stored}
use Rattle.type_proof.proofs.invariant.After.{After, runs_show}
use Rattle.type_proof.proofs.invariant.Rights.{Ours, emptied, inv_emptied, grows_emptied, content_same}
use Rattle.type_proof.proofs.invariant.Aliases.{Ends, Ended, not_flying, not_pinned, flying_some, flying_away, flying_unpinned, flying_unsteady, pinned_some}
use Rattle.type_proof.proofs.invariant.Aliases.{pinned_away, pinned_grounded, pinned_staying}

-- the key in a cell opens its region while `body` runs
abbrev pub with_key : Spot → (ℕ → Act Flow) → Act Flow
with_key at body = read_cell at >>= λ v. key_of v >>= λ r. lending at v (in_region (key_opened r) key_closed body)

resting_closed : (o : Owner) (f : Bool) (st : State) (s : Spot) → o ≡ InCell s → f ≡ true → StateOk o f st → st ≡ Closed
resting_closed o f st s e p h = subst (λ (x : Bool). Resting x st) p (subst (λ (x : Owner). StateOk x f st) e h)

pinned_live : (o : Owner) (f : Bool) (st : State) (k : ℕ) → o ≡ Pinned k → StateOk o f st → st ≡ Live
pinned_live o f st k e h = subst (λ (x : Owner). StateOk x f st) e h

celled : (s : Spot) (o : Owner) → o ≡ InCell s → o ≡ Nobody → ⊥
celled s o e f = cc

-- how what runs with an open key begins
pub record Begins (d : Tables) (k b : ℕ) (w : Ghost) (m : Memory) (at : Spot) (r : Region) (w' : Ghost) (m' : Memory) : Type 0 where
  pub inv : Inv d w' m'
  pub grows : Grows k b w m w' m'
  pub pinned : w'.owner r ≡ Pinned k
  pub live : m'.state r ≡ Live
  pub cells : (s : Spot) → (s ≡ at → ⊥) → m'.cells s ≡ m.cells s

module _ (d : Tables) (k b : ℕ) (w : Ghost) (m : Memory) (at : Spot) (q : Region) (v : Scalar) (i : Inv d w m) (e : w.types at ≡ Some (Private (Key q)))
    (ours : Ours b at) (h : Locks w (InCell at) v q)
  where
    -- the key is lent, and has no right meanwhile
    abbrev pub lent_ghost : Ghost
    lent_ghost = emptied at k 0 w

    abbrev pub lent_memory : Memory
    lent_memory = with_cell m at (cell (Key q) (Lent v))

    -- its region is open
    abbrev pub open_ghost : Ghost
    open_ghost = owned_by lent_ghost q (Pinned k)

    abbrev pub open_memory : Memory
    open_memory = with_state lent_memory q Live

    -- and closed again, when the key has its value back
    abbrev pub closed_memory : Memory → Memory
    closed_memory m2 = with_cell (with_state m2 q Closed) at (cell (Key q) (Holds v))

    lent_inv : Inv d lent_ghost lent_memory
    lent_inv = inv_emptied d w m at (Key q) k 0 (Lent v) i e (λ u f. cc)

    lent_grows : Grows k b w m lent_ghost lent_memory
    lent_grows = grows_emptied k b w m at (Key q) 0 (cell (Key q) (Lent v)) e ours

    had : w.owner q ≡ InCell at
    had = ap w.owner h.region ∙ h.owner

    own : lent_ghost.owner q ≡ Flying k 0
    own = ap (out_of at k 0) had ∙ same_at at (Flying k 0) (InCell at)

    -- the loan begins
    pub key_begins : Begins d k b w m at q open_ghost open_memory
    key_begins = record {
      inv = inv_turn d lent_ghost lent_memory q (Pinned k) Live lent_inv turn;
      grows = grows_trans lent_grows (grows_turn k b lent_ghost lent_memory q (Pinned k) Live turn.had turn.gets
          (λ x y l f. not_flying k 0 x y (lent_ghost.owner q) own l f)
          (λ x l f. flying_unpinned k 0 x _ own f));
      pinned = same_here q (Pinned k) (lent_ghost.owner q);
      live = same_here q Live (lent_memory.state q);
      cells = λ s n. at_spot m.cells at (Some (cell (Key q) (Lent v))) s (λ z. z ≡ m.cells s) (λ z. absurd (n z)) (λ z. refl);
    }
      where
        turn : Turns lent_ghost lent_memory q (Pinned k) Live
        turn = record { had = flying_some k 0 _ own; gets = λ z. cc; ok = refl; alone = inl (ByLoan, refl); away = λ s z. flying_away k 0 s _ own z }

    -- the loan ends
    pub key_ends : (w2 : Ghost) (m2 : Memory) → Inv d w2 m2 → Grows (suc k) b open_ghost open_memory w2 m2
        → Ended d k b w m at (Key q) v w2 m2 (closed_memory m2)
    key_ends w2 m2 i2 g2 = record {
      ghost = stored at k 0 w3;
      inv = inv_stored d w3 m3 at (Private (Key q)) k 0 v i3 typed3 locks3;
      grows = grows_trans key_begins.grows (grows_trans (grows_less g2)
          (grows_trans g3 (grows_stored k b w3 m3 at (Private (Key q)) 0 (cell (Key q) (Holds v)) typed3 (λ j t f p l. ours j p l))));
      holds = same_at at (Some (cell (Key q) (Holds v))) (m2.cells at);
      ends = record {
        types = λ s x f. f;
        above = λ a c f. f;
        keyed = λ r. refl;
        returned = λ r c f. ap (into at k 0) (at_region w2.owner q (Flying k 0) r (λ z. z ≡ Returned c)
            (λ z. absurd (pinned_staying k c _ pin (sym (ap w2.owner z) ∙ f))) (λ z. f));
        scoped = λ r f. ap (into at k 0) (at_region w2.owner q (Flying k 0) r (λ z. z ≡ Nobody)
            (λ z. absurd (pinned_some k _ pin (sym (ap w2.owner z) ∙ f))) (λ z. f));
        state = λ r f. at_region m2.state q Closed r (λ z. z ≡ m2.state r) (λ z. absurd (pinned_some k _ pin (sym (ap w2.owner z) ∙ f))) (λ z. refl);
        cells = λ s n. at_spot m2.cells at (Some (cell (Key q) (Holds v))) s (λ z. z ≡ m2.cells s) (λ z. absurd (n z)) (λ z. refl);
      };
    }
      where
        pin : w2.owner q ≡ Pinned k
        pin = g2.pinned q k (omega arith) key_begins.pinned

        keyed : w2.keyed q ≡ true
        keyed = g2.keyed q (known_live d _ _ q key_begins.inv key_begins.live) ∙ (ap w.keyed h.region ∙ h.keyed)

        alone : Alone w2 m2 q
        alone = loan_alone d (suc k) b lent_ghost lent_memory q (Pinned k) Live w2 m2 lent_inv (λ z. flying_unsteady k 0 (subst Steady own z))
            key_begins.inv i2 g2

        turn : Turns w2 m2 q (Flying k 0) Closed
        turn = record {
          had = pinned_some k _ pin;
          gets = λ z. cc;
          ok = subst (λ (x : Bool). Resting x Closed) (sym keyed) refl;
          alone = inr alone;
          away = λ s z. pinned_away k s _ pin z;
        }

        w3 : Ghost
        w3 = owned_by w2 q (Flying k 0)

        m3 : Memory
        m3 = with_state m2 q Closed

        i3 : Inv d w3 m3
        i3 = inv_turn d w2 m2 q (Flying k 0) Closed i2 turn

        g3 : Grows k b w2 m2 w3 m3
        g3 = grows_turn k b w2 m2 q (Flying k 0) Closed turn.had turn.gets (λ x y l f. pinned_grounded k x y _ pin f)
            (λ x l f. not_pinned k x (w2.owner q) pin l f)

        typed3 : w3.types at ≡ Some (Private (Key q))
        typed3 = g2.types at (Private (Key q)) (key_begins.grows.types at (Private (Key q)) e)

        locks3 : HasType d w3 (Flying k 0) v (Key q)
        locks3 = record {
          birth = h.birth;
          is = h.is;
          region = h.region;
          owner = subst (λ (x : Region). w3.owner x ≡ Flying k 0) h.region (same_here q (Flying k 0) (w2.owner q));
          keyed = subst (λ (x : Region). w2.keyed x ≡ true) h.region keyed;
        }

-- a held key is opened for as long as `body` runs
module _ (d : Tables) (n k b : ℕ) (w : Ghost) (m : Memory) (at : Spot) (q : Region) (birth : ℕ) (body : ℕ → Act Flow) (P R : Flow → Ghost → Memory → Type 0)
    (i : Inv d w m) (l : m.state at.region ≡ Live) (scoped : w.owner at.region ≡ Nobody) (ours : Ours b at) (e : w.types at ≡ Some (Private (Key q)))
    (holds : m.cells at ≡ Some (cell (Key q) (Holds (KeyOf birth)))) (region : q ≡ Born birth) (owner : w.owner (Born birth) ≡ InCell at)
    (keyed : w.keyed (Born birth) ≡ true)
  where
    abbrev key : Scalar
    key = KeyOf birth

    abbrev has : Locks w (InCell at) key q
    has = record { birth = birth; is = refl; region = region; owner = owner; keyed = keyed }

    abbrev w1 : Ghost
    w1 = owned_by (emptied at k 0 w) q (Pinned k)

    abbrev ma : Memory
    ma = with_cell m at (cell (Key q) (Lent key))

    abbrev m1 : Memory
    m1 = with_state ma q Live

    start : Begins d k b w m at q w1 m1
    start = key_begins d k b w m at q key i e ours has

    was : m.state (Born birth) ≡ Closed
    was = resting_closed _ _ _ at owner keyed (i.states (Born birth))

    abbrev Finish : Type 0
    Finish = (flow : Flow) (w2 : Ghost) (m2 : Memory) (w3 : Ghost) (m3 : Memory) → P flow w2 m2 → Ends at w2 m2 w3 m3
        → m3.cells at ≡ Some (cell (Key q) (Holds key)) → R flow w3 m3

    closing : Finish → (next : Flow → Memory → Step) → ((flow : Flow) (m' : Memory) → After d k b w m (R flow) m' → Safe n (next flow m')) → (flow : Flow)
        (m2 : Memory) → After d (suc k) b w1 m1 (P flow) m2
        → Safe n ((key_closed birth >> (give flow >>= λ f. put_content at (Holds key) >> give f)) next m2)
    closing finish next g flow m2 p =
        let w2 : Ghost = p.ghost in
        let done : Ended d k b w m at (Key q) key w2 m2 (with_cell (with_state m2 q Closed) at (cell (Key q) (Holds key))) =
        key_ends d k b w m at q key i e ours has w2 m2 p.inv p.grows in
        let pin : w2.owner q ≡ Pinned k = p.grows.pinned q k (omega arith) start.pinned in
        let alive : m2.state (Born birth) ≡ Live = subst (λ (r : Region). m2.state r ≡ Live) region (pinned_live _ _ _ k pin (p.inv.states q)) in
        let kn : Known m at.region = known_live d w m at.region i l in
        let nobody : w1.owner at.region ≡ Nobody = start.grows.scoped at.region kn scoped in
        let frame : m2.state at.region ≡ Live = p.grows.state at.region (p.grows.scoped at.region (start.grows.known at.region kn) nobody)
        ∙ (start.grows.state at.region nobody ∙ l) in
        let y : CellOk d w2 at (m2.cells at) (Private (Key q)) = p.inv.cells at (Private (Key q)) (p.grows.types at _ (start.grows.types at _ e)) in
        let still : (with_state m2 q Closed).state at.region ≡ Live = at_region m2.state q Closed at.region (λ z. z ≡ Live)
        (λ z. absurd (celled at _ (ap w.owner region ∙ owner) (sym (ap w.owner z) ∙ scoped))) (λ z. frame) in
        let there : cell_at (with_state m2 q Closed) at ≡ Some (cell (Key q) y.content) = seen (with_state m2 q Closed) at _ still y.is in
        let rest : Act Flow = give flow >>= λ f. put_content at (Holds key) >> give f in
        let last : Runs n rest (with_state m2 q Closed) (λ f. After d k b w m (R f)) =
        runs_put n at (shape_of (Key q)) y.content (Holds key) (give flow) (with_state m2 q Closed) (λ f. After d k b w m (R f)) there
        (record {
          by = λ next2 g2. g2 flow _ (record {
            ghost = done.ghost;
            inv = done.inv;
            grows = done.grows;
            holds = finish flow w2 m2 done.ghost (with_cell (with_state m2 q Closed) at (cell (Key q) (Holds key))) p.holds done.ends done.holds;
          });
        }) in
        (runs_check n (is_live m2 (Born birth)) (show (KeyClose birth) >> (λ next2 m3. rest next2 (with_state m3 (Born birth) Closed))) m2
        (λ f. After d k b w m (R f)) (ap state_is_live alive)
        (runs_show n (KeyClose birth) (λ next2 m3. rest next2 (with_state m3 (Born birth) Closed)) m2 (λ f. After d k b w m (R f))
        (record { by = λ next2 g2. subst (λ (r : Region). Safe n (rest next2 (with_state m2 r Closed))) region (last.by next2 g2) }))).by next g

    runs_open : (Begins d k b w m at q w1 m1 → Runs n (body birth) m1 (λ flow. After d (suc k) b w1 m1 (P flow))) → Finish
        → Runs n (lending at key (in_region (key_opened birth) key_closed body)) m (λ flow. After d k b w m (R flow))
    runs_open run finish =
        let tail : Act Flow = finally (in_region (key_opened birth) key_closed body) (put_content at (Holds key)) in
        let inside : Act Flow = body birth >>= λ flow. key_closed birth >> (give flow >>= λ f. put_content at (Holds key) >> give f) in
        let main : Runs n (body birth) m1 (λ flow. After d (suc k) b w1 m1 (P flow)) = run start in
        runs_put n at (shape_of (Key q)) (Holds key) (Lent key) tail m (λ flow. After d k b w m (R flow)) (seen m at _ l holds)
        (record {
          by = λ na ga. (runs_check n (is_closed ma (Born birth)) (show (KeyOpen birth) >> (λ next2 m3. inside next2 (with_state m3 (Born birth) Live))) ma
              (λ flow. After d k b w m (R flow)) (ap state_is_closed was)
              (runs_show n (KeyOpen birth) (λ next2 m3. inside next2 (with_state m3 (Born birth) Live)) ma (λ flow. After d k b w m (R flow))
              (record {
                by = λ next2 g2. subst (λ (r : Region). Safe n (inside next2 (with_state ma r Live))) region
                    (main.by (λ flow. (key_closed birth >> (give flow >>= λ f. put_content at (Holds key) >> give f)) next2) (closing finish next2 g2));
              }))).by na ga;
        })

pub runs_with_key : (d : Tables) (n k b : ℕ) (w : Ghost) (m : Memory) (at : Spot) (q : Region) (v : Scalar) (body : ℕ → Act Flow)
    (P R : Flow → Ghost → Memory → Type 0) → Inv d w m → m.state at.region ≡ Live → w.owner at.region ≡ Nobody → Ours b at
    → w.types at ≡ Some (Private (Key q)) → m.cells at ≡ Some (cell (Key q) (Holds v))
    → ((birth : ℕ) (w1 : Ghost) (m1 : Memory) → q ≡ Born birth → Begins d k b w m at q w1 m1
    → Runs n (body birth) m1 (λ flow. After d (suc k) b w1 m1 (P flow)))
    → ((flow : Flow) (w2 : Ghost) (m2 : Memory) (w3 : Ghost) (m3 : Memory) → P flow w2 m2 → Ends at w2 m2 w3 m3
    → m3.cells at ≡ Some (cell (Key q) (Holds v)) → R flow w3 m3)
    → Runs n (with_key at body) m (λ flow. After d k b w m (R flow))
runs_with_key d n k b w m at q v body P R i l scoped ours e holds run finish =
    runs_read n at (shape_of (Key q)) v (λ u. key_of u >>= λ r. lending at u (in_region (key_opened r) key_closed body)) m (λ flow. After d k b w m (R flow))
    (seen m at _ l holds)
    (subst (λ (u : Scalar). Runs n (key_of u >>= λ r. lending at u (in_region (key_opened r) key_closed body)) m (λ flow. After d k b w m (R flow)))
    (sym has.is)
    (record { by = λ next g. inner.by next g }))
  where
    x : CellOk d w at (m.cells at) (Private (Key q))
    x = i.cells at (Private (Key q)) e

    ok : (u : Scalar) → x.content ≡ Holds u → Locks w (InCell at) u q
    ok = x.ok

    has : Locks w (InCell at) v q
    has = ok v (content_same _ (Key q) x.content (Holds v) x.is holds)

    inner : Runs n (lending at (KeyOf has.birth) (in_region (key_opened has.birth) key_closed body)) m (λ flow. After d k b w m (R flow))
    inner = runs_open d n k b w m at q has.birth body P R i l scoped ours e (subst (λ (u : Scalar). m.cells at ≡ Some (cell (Key q) (Holds u))) has.is holds)
        has.region has.owner has.keyed (λ s. run has.birth _ _ has.region s)
        (λ flow w2 m2 w3 m3 p ends there. finish flow w2 m2 w3 m3 p ends
        (subst (λ (u : Scalar). m3.cells at ≡ Some (cell (Key q) (Holds u))) (sym has.is) there))
