-- All statements together.
use Rattle.std.proofs.Common.{◌≡◌, ℕ, Bool, true, false, ◌⊎◌, inl, inr, Option, Some, None, List, [], refl, sym, ◌∙◌, ap, subst, arith}
use Rattle.std.specs.Prelude.{length, ◌++◌}
use Rattle.cyc_tree.specs.Tree as tree
use Rattle.cyc_tree.specs.Tree.{Expression, Initializer, Statement, BlockItems, NoItems, Declare, Execute, Clauses, NoClauses, MoreClauses, Case, Default}
use Rattle.source_meaning.specs.Shapes.{single}
use Rattle.source_meaning.specs.Shapes.{ArrayShape, HandleShape, KeyShape}
use Rattle.source_meaning.specs.Memory.{Region, Frame, Born, Memory}
use Rattle.source_meaning.specs.Steps.{Variable, World, Scope, Flow, Act, Falls, Breaks, Continues, Returns, give, take_turn}
use Rattle.source_meaning.specs.Places.{or_else, with_binding}
use Rattle.source_meaning.specs.Calls.{truth}
use Rattle.source_meaning.specs.Strings.{expression_strings, statement_strings, items_strings, clauses_strings}
use Rattle.source_meaning.specs.Expressions.{sense}
use Rattle.source_meaning.specs.Statements.{statement, block_items}
use Rattle.source_typing.specs.Scope.{Env, Value, block_entered, next_region}
use Rattle.source_typing.specs.Tables as typing
use Rattle.source_typing.specs.Types.{StaticType, Void, Handle, Key, Thin, Union, renamed, shape_of}
use Rattle.source_typing.specs.Flow.{use_of}
use Rattle.source_typing.specs.Left.{left, declares, turn_of, back_of, left_by, left_by_items, left_by_clauses, switched_left}
use Rattle.source_typing.specs.States.{States, loop_head}
use Rattle.source_typing.specs.Statements.{Chosen, chosen, in_a_loop, in_a_switch}
use Rattle.type_proof.specs.Flat.{Tables}
use Rattle.type_proof.specs.Judged.{AliasOpened, KeyOpened, extended, arrayed, LocalUnset, LocalArray, LocalSet, StatementJudged, ItemsJudged}
use Rattle.type_proof.specs.Judged.{ClausesJudged, on_union}
use Rattle.type_proof.proofs.invariant.Invariant.{RunType, Ghost, Inv}
use Rattle.type_proof.proofs.invariant.Growth.{grows_refl}
use Rattle.type_proof.proofs.invariant.Names.{NameOf, naming}
use Rattle.type_proof.proofs.Strings.{AreFound, found_parts}
use Rattle.type_proof.proofs.invariant.Scenes.{Scene, scene_later}
use Rattle.type_proof.proofs.Entries.{Invokes}
use Rattle.type_proof.proofs.expressions.Forms.{Denotes, Refuses}
use Rattle.type_proof.proofs.statements.Surroundings.{Surrounds, agrees_here, type_up, surrounds_local, surrounds_array, surrounds_block}
use Rattle.type_proof.proofs.statements.Lexical.{lexical, names_with, with_region_is, surrounds_region}
use Rattle.source_typing.specs.Tables.{argument}
use Rattle.source_typing.specs.Ways.{ways_of}
use Rattle.type_proof.proofs.statements.Flows.{ReturnOk, Leaves, Turning}
use Rattle.type_proof.proofs.statements.Ways.{leaves_either, head_leaves, head_begins, leaves_then}
use Rattle.flow_summaries.specs.Exits.{ends}
use Rattle.flow_summaries.specs.Expressions.{uses_of}
use Rattle.flow_summaries.specs.Statements.{exits_of, exits_of_items}
use Rattle.flow_summaries.proofs.Exits.{leaves_at_end}
use Rattle.flow_summaries.proofs.Expressions.{uses_told}
use Rattle.flow_summaries.proofs.Statements.{exits_told, items_told}
use Rattle.type_proof.proofs.statements.Declared.{leaves_unset, leaves_array, leaves_set, leaves_region}
use Rattle.type_proof.proofs.statements.Exchanged.{leaves_exchange}
use Rattle.type_proof.proofs.statements.Freed.{leaves_free, leaves_free_key}
use Rattle.type_proof.proofs.statements.Aliased.{leaves_alias}
use Rattle.type_proof.proofs.statements.Keyed.{leaves_key}
use Rattle.type_proof.proofs.statements.Opened.{leaves_open}
use Rattle.type_proof.proofs.statements.AliasScope.{aliasing, opening, surrounds_alias, surrounds_name, surrounds_open, with_name_is, with_named, with_named_is}
use Rattle.type_proof.proofs.statements.Switched.{HoldsMember, AllLeave, switch_leaves}
use Rattle.type_proof.proofs.statements.Clauses.{case_here, default_here, its_clause, none_falls}
use Rattle.type_proof.proofs.statements.Unreached.{falls_nowhere, clauses_fall_nowhere}
use Rattle.type_proof.proofs.invariant.Sound.{ShowsBy, Sound, none_first}
use Rattle.source_meaning.specs.Statements as meaning
use Rattle.source_typing.specs.Expressions.{judge}
use Rattle.source_typing.specs.Named.{AllBelow, TypeBelow}
use Rattle.type_proof.proofs.statements.Looped.{surrounds_switch}
use Rattle.type_proof.proofs.statements.Statements.{denotes, leaves_at_once, condition_tells, leaves_block, leaves_return, leaves_run}

-- what follows in a block is judged as reached where the rules of flow reach it
reached_items : (g : Env) (x : Statement) (others : BlockItems) (s t : States) → (left_by g x s).falls ≡ Some t → ItemsJudged g (ways_of x).falls others
    → ItemsJudged g true others
reached_items g x others s t e j = by (ways_of x).falls refl j
  where
    by : (c : Bool) → (ways_of x).falls ≡ c → ItemsJudged g c others → ItemsJudged g true others
    by true z q = q
    by false z q = absurd (let u : None ≡ Some t = sym (falls_nowhere x g s z) ∙ e in cc)

module _ (n : ℕ) (d : Tables) (world : World) (tables : typing.Tables) (invokes : Invokes n d world tables) (turns : Turning n d world tables) (b : ℕ)
    (gives : RunType)
  where
    -- a `switch`, by its place and its clauses
    leaves_switch : (at : ℕ) (e : Expression) (cs : Clauses) (g : Env) (scope : Scope) (f : NameOf → Region) (v : Value) (tag : List ℕ) (rs : List NameOf)
        → v.type ≡ Union tag rs → Denotes n d g scope f b b v (use_of g e) (sense e scope)
        → ((s : States) → (left_by_clauses (in_a_switch g) (chosen (judge g e)) cs s).falls ≡ None)
        → ((held : meaning.Held) (w : Ghost) → HoldsMember d scope f tag rs held w → (act : Act Flow)
        × (or_else (meaning.case_for cs held scope) (meaning.default_for cs scope) ≡ Some act))
        → ((held : meaning.Held) (k : ℕ) (s : States) (w : Ghost) (m : Memory) → HoldsMember d scope f tag rs held w → Inv d w m
        → Scene d (in_a_switch g) scope f b b s k w m
        → AllLeave n d gives (in_a_switch g) scope f b (chosen (judge g e)) held k s w m cs)
        → Leaves n d gives g scope f b (left_by g (Statement.Switch at e cs)) (statement (Statement.Switch at e cs) scope)
    leaves_switch at e cs g scope f v tag rs is z ends found clauses = by z.sound
      where
        by : Sound n d g scope f b b v (use_of g e) z.own (sense e scope) ⊎ Refuses n d g scope f b b (use_of g e)
            → Leaves n d gives g scope f b (left_by g (Statement.Switch at e cs)) (statement (Statement.Switch at e cs) scope)
        by (inr y) = λ s none. absurd (y.look s (none_first ((use_of g e).look s).faults
            (switched_left (left_by_clauses (in_a_switch g) (chosen (judge g e)) cs ((use_of g e).look s).states)).faults none))
        by (inl y) =
            switch_leaves n d gives g scope f b at e cs tag rs
            (y.shape (λ q. let u : Union tag rs ≡ Void = sym is ∙ q in cc) ∙ ap shape_of is)
            (subst (λ (t : StaticType). ShowsBy n d g scope f b b (use_of g e).look t (sense e scope).look) is y.look) ends found clauses

    -- ---- all statements

    mutual
      pub statement_leaves : (s : Statement) (g : Env) (scope : Scope) (f : NameOf → Region) → Surrounds d world tables g scope f gives
          → StatementJudged g true s
          → AreFound world.strings (statement_strings s) → Leaves n d gives g scope f b (left_by g s) (statement s scope)
      statement_leaves (Statement.Empty at) g scope f h j fs = leaves_at_once n d world tables invokes b gives g scope f (left_by g (Statement.Empty at)) Falls
          (λ s w m st. (s, refl, st))
      statement_leaves (Statement.Block at items) g scope f h j fs =
          leaves_block n d world tables invokes b gives g scope f items h
          (λ a. items_leave items (block_entered g) (record scope { frame = a }) (naming f g.regions.count (Frame a))
          (surrounds_block d world tables g scope f gives h a) j fs)
      statement_leaves (Statement.Run e) g scope f h j fs = leaves_run n d world tables invokes b gives g scope f e h j fs
      statement_leaves (Statement.Exchange l r) g scope f h j fs =
          let found : AreFound world.strings (expression_strings l) × AreFound world.strings (expression_strings r) =
          found_parts world.strings (expression_strings l) (expression_strings r) fs in
          leaves_exchange n d world tables invokes b gives g scope f l r h j found.0 found.1
      statement_leaves (Statement.If at e body) g scope f h j fs =
          leaves_either n d gives g scope f b (use_of g e).look (left_by g body) (λ t. left (Some t) None None []) (exits_of g body) ends
          (truth (sense e scope)) (statement body scope) (give Falls)
          (condition_tells n d world tables invokes b gives g scope f e h j.0 (found_parts world.strings (expression_strings e) (statement_strings body) fs).0)
          (exits_told body g) (leaves_at_end (length g.locals))
          (statement_leaves body g scope f h j.1 (found_parts world.strings (expression_strings e) (statement_strings body) fs).1)
          (leaves_at_once n d world tables invokes b gives g scope f (λ t. left (Some t) None None []) Falls (λ s w m st. (s, refl, st)))
      statement_leaves (Statement.IfElse at e body otherwise) g scope f h j fs =
          leaves_either n d gives g scope f b (use_of g e).look (left_by g body) (left_by g otherwise) (exits_of g body) (exits_of g otherwise)
          (truth (sense e scope)) (statement body scope) (statement otherwise scope)
          (condition_tells n d world tables invokes b gives g scope f e h j.0
          (found_parts world.strings (expression_strings e) (statement_strings body ++ statement_strings otherwise) fs).0) (exits_told body g)
          (exits_told otherwise g)
          (statement_leaves body g scope f h j.1.0 (found_parts world.strings (statement_strings body) (statement_strings otherwise)
          (found_parts world.strings (expression_strings e) (statement_strings body ++ statement_strings otherwise) fs).1).0)
          (statement_leaves otherwise g scope f h j.1.1 (found_parts world.strings (statement_strings body) (statement_strings otherwise)
          (found_parts world.strings (expression_strings e) (statement_strings body ++ statement_strings otherwise) fs).1).1)
      statement_leaves (Statement.While at e body) g scope f h j fs = λ s none k w m i x.
          let head = head_begins n d gives g scope f b (use_of g e).look (left_by (in_a_loop g) body) (uses_of g e).look (exits_of (in_a_loop g) body)
          (uses_told e g).look (exits_told body (in_a_loop g)) s w m x.stands none in
          head_leaves n d gives g scope f b (use_of g e).look (left_by (in_a_loop g) body) (exits_of (in_a_loop g) body) (truth (sense e scope))
          (take_turn e body scope)
          (condition_tells n d world tables invokes b gives g scope f e h j.0 (found_parts world.strings (expression_strings e) (statement_strings body) fs).0)
          (exits_told body (in_a_loop g)) (turns gives g scope f b e body h j.0 j.1 fs)
          (loop_head s (λ t. back_of (turn_of (use_of g e).look (left_by (in_a_loop g) body) t))) head.0 k w m i
          (scene_later d g scope f b b s (loop_head s (λ t. back_of (turn_of (use_of g e).look (left_by (in_a_loop g) body) t))) k w m w m i
          (grows_refl k b w m)
          head.1 x)
      statement_leaves (Statement.Switch at e cs) g scope f h j fs =
          let c : Chosen = on_union j.0 in
          let found : AreFound world.strings (expression_strings e) × AreFound world.strings (clauses_strings cs) =
          found_parts world.strings (expression_strings e) (clauses_strings cs) fs in
          let z : Denotes n d g scope f b b j.0.accepted.value (use_of g e) (sense e scope) =
          denotes n d world tables invokes b gives g scope f e h j.0.accepted found.0 in
          let h1 : Surrounds d world tables (in_a_switch g) scope f gives = surrounds_switch d world tables g scope f gives h in
          let below : AllBelow g.regions.count j.0.regions = subst (λ (t : StaticType). TypeBelow g.regions.count t) j.0.is z.below in
          leaves_switch at e cs g scope f j.0.accepted.value j.0.tag j.0.regions j.0.is z
          (λ s. clauses_fall_nowhere cs (in_a_switch g) (chosen (judge g e)) s (none_falls (in_a_switch g) c cs j.1))
          (λ held w holds. its_clause n d world tables invokes b gives (in_a_switch g) scope f h1 c held w holds cs j.0.fit)
          (λ held k s w m holds i x. subst (λ (o : Option Chosen). AllLeave n d gives (in_a_switch g) scope f b o held k s w m cs) (sym j.0.place)
          (clauses_leave_all cs (in_a_switch g) scope f h1 c below j.1 found.1 held w holds k s m i x))
      statement_leaves (Statement.Break at) g scope f h j fs = leaves_at_once n d world tables invokes b gives g scope f (left_by g (Statement.Break at)) Breaks
          (λ s w m st. ((s, refl, st), j))
      statement_leaves (Statement.Continue at) g scope f h j fs = leaves_at_once n d world tables invokes b gives g scope f (left_by g (Statement.Continue at))
          Continues (λ s w m st. ((s, refl, st), j))
      statement_leaves (Statement.Return at None) g scope f h j fs =
          leaves_at_once n d world tables invokes b gives g scope f (left_by g (Statement.Return at None)) (Returns [])
          (λ s w m st. subst (λ (t : RunType). ReturnOk d t [] w) (h.result Void j).run tt)
      statement_leaves (Statement.Return at (Some e)) g scope f h j fs = leaves_return n d world tables invokes b gives at g scope f e h j fs
      statement_leaves (Statement.FreeUnique at p) g scope f h j fs =
          leaves_free n d gives g scope f b at p (agrees_here d world tables g scope f gives h) h.binds j
      statement_leaves (Statement.FreeKey at p) g scope f h j fs =
          leaves_free_key n d gives g scope f b at p (agrees_here d world tables g scope f gives h) h.binds j

      pub items_leave : (items : BlockItems) (g : Env) (scope : Scope) (f : NameOf → Region) → Surrounds d world tables g scope f gives
          → ItemsJudged g true items
          → AreFound world.strings (items_strings items) → Leaves n d gives g scope f b (left_by_items g items) (block_items items scope)
      items_leave NoItems g scope f h j fs = leaves_at_once n d world tables invokes b gives g scope f (left_by_items g NoItems) Falls
          (λ s w m st. (s, refl, st))
      items_leave (Declare (tree.Local of x Initializer.Unset) others) g scope f h j fs =
          let l : LocalUnset g of x = j.0 in
          subst (λ (y : Env). Leaves n d gives g scope f b (λ s. declares g y (tree.Local of x Initializer.Unset) (λ t. left_by_items y others t) s)
          (block_items (Declare (tree.Local of x Initializer.Unset) others) scope)) (sym l.scope)
          (leaves_unset n d world tables invokes b gives g scope f of x (left_by_items (extended g x l.type) others) (block_items others) h l
          (λ at there. items_leave others (extended g x l.type) (with_binding scope x.text (Variable (shape_of l.type) at)) f
          (surrounds_local d world tables g scope f x l.type at gives h l.object l.below there) (subst (λ (y : Env). ItemsJudged y true others) l.scope j.1)
          fs))
      items_leave (Declare (tree.Local of x (Initializer.Value e)) others) g scope f h j fs =
          let l : LocalSet g of x e = j.0 in
          subst (λ (y : Env). Leaves n d gives g scope f b (λ s. declares g y (tree.Local of x (Initializer.Value e)) (λ t. left_by_items y others t) s)
          (block_items (Declare (tree.Local of x (Initializer.Value e)) others) scope)) (sym l.scope)
          (leaves_set n d world tables invokes b gives g scope f of x e (left_by_items (extended g x l.type) others) (block_items others) h l
          (found_parts world.strings (expression_strings e) (items_strings others) fs).0
          (λ at there. items_leave others (extended g x l.type) (with_binding scope x.text (Variable (shape_of l.type) at)) f
          (surrounds_local d world tables g scope f x l.type at gives h l.object l.below there) (subst (λ (y : Env). ItemsJudged y true others) l.scope j.1)
          (found_parts world.strings (expression_strings e) (items_strings others) fs).1))
      items_leave (Declare (tree.Local of x (Initializer.Elements c)) others) g scope f h j fs =
          let l : LocalArray g of x c = j.0 in
          subst (λ (y : Env). Leaves n d gives g scope f b (λ s. declares g y (tree.Local of x (Initializer.Elements c)) (λ t. left_by_items y others t) s)
          (block_items (Declare (tree.Local of x (Initializer.Elements c)) others) scope)) (sym l.scope)
          (leaves_array n d world tables invokes b gives g scope f of x c (left_by_items (arrayed g x l.type) others) (block_items others) h l
          (λ at there. items_leave others (arrayed g x l.type) (with_binding scope x.text (Variable (ArrayShape c (shape_of l.type)) at)) f
          (surrounds_array d world tables g scope f x l.type at gives h l.object l.below there c) (subst (λ (y : Env). ItemsJudged y true others) l.scope j.1)
          fs))
      items_leave (Declare (tree.Region at r x) others) g scope f h j fs =
          let t : StaticType = Handle (next_region g) in
          let same = j.0 ∙ ap (λ (y : Env). extended y x t) (with_region_is r g) in
          subst (λ (y : Env). Leaves n d gives g scope f b (λ s. declares g y (tree.Region at r x) (λ t. left_by_items y others t) s)
          (block_items (Declare (tree.Region at r x) others) scope)) (sym same)
          (leaves_region n d world tables invokes b gives g scope f (names_with r g) x (left_by_items (extended (lexical g (names_with r g)) x t) others)
          (block_items others) h
          (λ a at there.
          let h1 : Surrounds d world tables (lexical g (names_with r g)) scope (naming f g.regions.count (Born a)) gives =
          surrounds_region d world tables g scope f gives (names_with r g) a h in
          items_leave others (extended (lexical g (names_with r g)) x t)
          (with_binding scope x.text (Variable HandleShape at))
          (naming f g.regions.count (Born a))
          (surrounds_local d world tables (lexical g (names_with r g)) scope (naming f g.regions.count (Born a)) x t at gives h1 tt (omega arith) there)
          (subst (λ (y : Env). ItemsJudged y true others) same j.1) fs))
      items_leave (Declare (tree.Open at r x y) others) g scope f h j fs =
          let o : KeyOpened g at r x y = j.0 in
          let q : NameOf = o.operand.region in
          subst (λ (e : Env). Leaves n d gives g scope f b (λ s. declares g e (tree.Open at r x y) (λ q. left_by_items e others q) s)
          (block_items (Declare (tree.Open at r x y) others) scope)) (sym o.scope)
          (leaves_open n d world tables invokes b gives g scope f x y (left_by_items (extended (opening g q) x (Handle q)) others)
          (block_items others) h at o.operand
          (λ under l there.
          items_leave others (extended (opening g q) x (Handle q)) (with_binding scope x.text (Variable HandleShape l)) f
          (surrounds_local d world tables (opening g q) scope f x (Handle q) l gives (surrounds_open d world tables g scope f gives q h) tt under there)
          (subst (λ (e : Env). ItemsJudged e true others) o.scope j.1) fs))
      items_leave (Declare (tree.Alias at r of x y) others) g scope f h j fs =
          let o : AliasOpened g at r of x y = j.0 in
          let t : StaticType = Thin (single o.operand.nullable) (next_region g) o.operand.to in
          let same = o.scope ∙ ap (λ (e : Env). extended e x t) (with_name_is r g) in
          subst (λ (e : Env). Leaves n d gives g scope f b (λ s. declares g e (tree.Alias at r of x y) (λ q. left_by_items e others q) s)
          (block_items (Declare (tree.Alias at r of x y) others) scope)) (sym same)
          (leaves_alias n d world tables invokes b gives g scope f x y r of (left_by_items (extended (aliasing g (names_with r g)) x t) others)
          (block_items others) h at o
          (λ q it under l there.
          items_leave others (extended (aliasing g (names_with r g)) x t) (with_binding scope x.text (Variable (shape_of t) l)) (naming f g.regions.count q)
          (surrounds_local d world tables (aliasing g (names_with r g)) scope (naming f g.regions.count q) x t l gives
          (surrounds_alias d world tables g scope f gives (names_with r g) q h) it (omega arith, type_up g.regions.count o.operand.to under) there)
          (subst (λ (e : Env). ItemsJudged e true others) same j.1) fs))
      items_leave (Declare (tree.NewKey at r x) others) g scope f h j fs =
          let t : StaticType = Key (next_region g) in
          let outside : Env = with_named false g (names_with r g) in
          let same = j.0 ∙ ap (λ (y : Env). extended y x t) (with_named_is false r g) in
          subst (λ (y : Env). Leaves n d gives g scope f b (λ s. declares g y (tree.NewKey at r x) (λ t. left_by_items y others t) s)
          (block_items (Declare (tree.NewKey at r x) others) scope)) (sym same)
          (leaves_key n d world tables invokes b gives g scope f (names_with r g) x (left_by_items (extended outside x t) others) (block_items others) h
          (λ a at there.
          items_leave others (extended outside x t) (with_binding scope x.text (Variable KeyShape at)) (naming f g.regions.count (Born a))
          (surrounds_local d world tables outside scope (naming f g.regions.count (Born a)) x t at gives
          (surrounds_name false d world tables g scope f gives (names_with r g) (Born a) h) tt (omega arith) there)
          (subst (λ (y : Env). ItemsJudged y true others) same j.1) fs))
      items_leave (Execute s others) g scope f h j fs =
          leaves_then n d gives g scope f b (left_by g s) (left_by_items g others) (exits_of g s) (exits_of_items g others) (statement s scope)
          (block_items others scope)
          (exits_told s g) (items_told others g) (statement_leaves s g scope f h j.0
          (found_parts world.strings (statement_strings s) (items_strings others) fs).0)
          (λ a t z. items_leave others g scope f h (reached_items g s others a t z j.1)
          (found_parts world.strings (statement_strings s) (items_strings others) fs).1)

      -- each clause is a block of items
      clauses_leave_all : (cs : Clauses) (g : Env) (scope : Scope) (f : NameOf → Region) (h : Surrounds d world tables g scope f gives) (c : Chosen)
          → AllBelow g.regions.count c.regions → ClausesJudged g true c cs → AreFound world.strings (clauses_strings cs) → (held : meaning.Held) (w : Ghost)
          → HoldsMember d scope f c.tag c.regions held w → (k : ℕ) (s : States) (m : Memory) → Inv d w m → Scene d g scope f b b s k w m
          → AllLeave n d gives g scope f b (Some c) held k s w m cs
      clauses_leave_all NoClauses g scope f h c below j fs held w holds k s m i x = tt
      clauses_leave_all (MoreClauses at Default body others) g scope f h c below j fs held w holds k s m i x =
          let found : AreFound world.strings (items_strings body) × AreFound world.strings (clauses_strings others) =
          found_parts world.strings (items_strings body) (clauses_strings others) fs in (
            default_here n d world tables invokes b gives g scope f h c held w holds below k s m i x body
                (λ a. items_leave body (block_entered g) (record scope { frame = a }) (naming f g.regions.count (Frame a))
                (surrounds_block d world tables g scope f gives h a) j.2 found.0),
            clauses_leave_all others g scope f h c below j.3 found.1 held w holds k s m i x,
          )
      clauses_leave_all (MoreClauses at (Case y z) body others) g scope f h c below j fs held w holds k s m i x =
          let found : AreFound world.strings (items_strings body) × AreFound world.strings (clauses_strings others) =
          found_parts world.strings (items_strings body) (clauses_strings others) fs in
          let t : StaticType = renamed (argument c.regions) j.1.type in (
            λ here. case_here n d world tables invokes b gives g scope f h c held w holds below k s m i x y z body j.1 here
                (λ a l there object under. items_leave body (extended (block_entered g) z t)
                (with_binding (record scope { frame = a }) z.text (Variable (shape_of t) l)) (naming f g.regions.count (Frame a))
                (surrounds_local d world tables (block_entered g) (record scope { frame = a }) (naming f g.regions.count (Frame a)) z t l gives
                (surrounds_block d world tables g scope f gives h a)
                object under there)
                (subst (λ (q : Env). ItemsJudged q true body) j.1.scope j.2) found.0),
            clauses_leave_all others g scope f h c below j.3 found.1 held w holds k s m i x,
          )
