-- What calls denote: of the program's functions, of the two that every program has, and the makings of structs.
use Rattle.std.proofs.Common.{◌≡◌, ℕ, Bool, true, false, inl, inr, Option, Some, None, List, [], ◌∷◌, refl, sym, ◌∙◌, ap, subst, ◌≤◌}
use Rattle.std.specs.Prelude.{map, bytes_eq, codes, nat_eq, length, if◌then◌else◌}
use Rattle.std.proofs.lemmas.Bool.{eqb-true}
use Rattle.source_meaning.specs.Shapes.{IntShape, part_shapes, has_tag}
use Rattle.source_meaning.specs.Memory.{Region}
use Rattle.source_meaning.specs.Steps.{Scope, ◌>>=◌, invoke}
use Rattle.source_meaning.specs.Places.{Sense, value_sense}
use Rattle.source_meaning.specs.Calls.{converted_all, call_sense, called, function_of, read_byte, write_byte, struct_made}
use Rattle.source_typing.specs.Verdicts.{Of, other_kind}
use Rattle.source_typing.specs.Fixing.{all_fits, fixed_from}
use Rattle.source_typing.specs.Calls.{Target, ToFunction, ToBuiltin, target, arguments_fit, call_entered, typed_result}
use Rattle.source_typing.specs.Calls as rules_of_calls
use Rattle.source_typing.specs.Scope.{Env, Local, Enclosing, Value, Nowhere, value, meant, with_locals}
use Rattle.source_typing.specs.Tables.{Entry, OfValue, OfTag, OfFunction, OfBuiltin, OfOther, Stored, Arrayed, Counter, Unknown, Signature, Tag, argument, find}
use Rattle.source_typing.specs.Tables as typing
use Rattle.source_typing.specs.Types.{StaticType, Int, renamed, shape_of}
use Rattle.source_typing.proofs.Inversion.{of_is, after_is, unless_is}
use Rattle.source_typing.proofs.CallsFit.{Arguments, arguments_are, Entered, entered_is, sound_is, struct_is}
use Rattle.source_typing.specs.Moves.{Use, value_use}
use Rattle.type_proof.specs.Flat.{Tables}
use Rattle.type_proof.proofs.invariant.Layouts.{Structs, agrees}
use Rattle.type_proof.proofs.invariant.Names.{NameOf}
use Rattle.source_typing.specs.Named.{AllBelow}
use Rattle.type_proof.proofs.invariant.Sound.{shape_renamed, GivesBy}
use Rattle.type_proof.proofs.expressions.Calling.{AllPass, all_values, gives_byte, gives_written}
use Rattle.type_proof.proofs.expressions.Words.{plain_simple, plain_renamed}
use Rattle.type_proof.proofs.expressions.Fixed.{EnclosingBelow, within, fixed_within, plain_below}
use Rattle.type_proof.proofs.expressions.StructForms.{called_struct}
use Rattle.type_proof.proofs.Entries.{Function, PlainEntry, Builtin, MeansPlain, Invokes, gives_called}
use Rattle.type_proof.proofs.expressions.WordRules.{not_more, Valued, value_of}
use Rattle.type_proof.proofs.expressions.Forms.{Denotes, denotes_value}
use Rattle.type_proof.proofs.expressions.Applied.{AllDenote, values_below, all_pass}

-- what a call gives is no place
result_seat : (at : ℕ) (rs : List NameOf) (t : Option StaticType) (v : Value) → typed_result at rs t ≡ Of v → v.seat ≡ Nowhere
result_seat at rs None v e = absurd cc
result_seat at rs (Some t) v e = (value_of at (renamed (argument rs) t) v e).seat

entered_seat : (g : Env) (at : ℕ) (s : Signature) (rs : List NameOf) (v : Value) → call_entered g at s rs ≡ Of v → v.seat ≡ Nowhere
entered_seat g at s rs v e = result_seat at rs s.result v (unless_is _ (typed_result at rs s.result) v e).1

-- locals are no structs
behind_locals : (ls : List Local) (g : typing.Tables) (x : List ℕ) (t : Tag) → find (with_locals ls g) x ≡ Some (OfTag t) → find g x ≡ Some (OfTag t)
behind_locals [] g x t e = e
behind_locals (l ∷ ls) g x t e = by (bytes_eq l.name x) (λ q. behind_locals ls g x t q) e
  where
    by : (b : Bool) → (find (with_locals ls g) x ≡ Some (OfTag t) → find g x ≡ Some (OfTag t))
        → (if b then Some (OfValue l.what) else find (with_locals ls g) x) ≡ Some (OfTag t) → find g x ≡ Some (OfTag t)
    by true others q = absurd cc
    by false others q = others q

pub tag_found : (g : Env) (x : List ℕ) (t : Tag) → meant g x ≡ Some (OfTag t) → find g.tables x ≡ Some (OfTag t)
tag_found g x t e = behind_locals g.locals g.tables x t e

module _ (n : ℕ) (d : Tables) (g : Env) (scope : Scope) (f : NameOf → Region) (b : ℕ) (low : ℕ) (loudly : b ≤ low)
    (invokes : Invokes n d scope.world g.tables) (strict : g.lenient ≡ false)
    (structs : Structs d scope.world g.tables) (i : Enclosing) (inside : EnclosingBelow g.regions.count i)
  where
    -- a call of a function of the program
    called_function : (at : ℕ) (x : List ℕ) (s : Signature) (F : Function scope.world x s) (vs : List Value) (us : List Use) (es : List Sense) (v : Value)
        → find g.tables x ≡ Some (OfFunction s) → AllDenote n d g scope f b low vs us es → rules_of_calls.called (within i g) at (ToFunction s) vs ≡ Of v
        → Denotes n d g scope f b low v (value_use (all_values us)) (call_sense scope.world x es)
    called_function at x s F vs us es v there h e =
        let z : (rs : List NameOf) × (arguments_fit (within i g) at s.regions s.parameters vs ≡ Of rs) × (call_entered (within i g) at s rs ≡ Of v) =
        after_is (arguments_fit (within i g) at s.regions s.parameters vs) (call_entered (within i g) at s) v e in
        let a : Arguments (within i g) s.parameters vs (fixed_from i at (all_fits s.parameters vs) 0 s.regions) z.0 =
        arguments_are (within i g) at s.regions s.parameters vs z.0 z.1 in
        let below : AllBelow g.regions.count z.0 =
        fixed_within g.regions.count at s.regions i F.types vs z.0 inside F.objects (values_below n d g scope f b low vs us es h)
        (subst (λ (ps : List (Option StaticType)). fixed_from i at (all_fits ps vs) 0 s.regions ≡ Of z.0) F.parameters a.found) in
        let r : Entered (within i g) s z.0 v = entered_is (within i g) at s z.0 v z.2 in
        let same : r.result ≡ F.gives = (let q : Some r.result ≡ Some F.gives = sym r.has ∙ F.result in cc) in
        let vt : v.type ≡ renamed (argument z.0) F.gives = r.is ∙ ap (renamed (argument z.0)) same in
        let pass : AllPass n d g scope f b low (map shape_of F.types) (map (renamed (argument z.0)) F.types) us es =
        all_pass n d g scope f b low loudly (agrees d scope.world g.tables structs) z.0 F.types vs us es F.objects
        (eqb-true _ _ (subst (λ (ps : List (Option StaticType)). nat_eq (length ps) (length vs) ≡ true) F.parameters a.count))
        (subst (λ (ps : List (Option StaticType)). Rattle.source_typing.proofs.CallsFit.AllConvert (within i g) z.0 ps vs) F.parameters a.convert) h in
        let gives : GivesBy n d g scope f b low (all_values us) (renamed (argument z.0) F.gives)
        (converted_all scope.world (part_shapes F.routine.parameters) es >>= λ vss. invoke F.routine scope.world vss) =
        gives_called n d g scope f b low x s F us es z.0 invokes there strict below r.live r.in_order
        (subst (λ ss. AllPass n d g scope f b low ss (map (renamed (argument z.0)) F.types) us es) (sym F.shapes) pass) in
        subst (λ (c : Bool). Denotes n d g scope f b low v (value_use (all_values us)) (if c then value_sense IntShape (read_byte es)
        else (if bytes_eq x (codes "putchar") then value_sense IntShape (write_byte scope.world es)
        else (if has_tag scope.world.structs x then struct_made scope.world x es else called scope.world (function_of scope.world.functions x) es))))
        (sym F.not_read)
        (subst (λ (c : Bool). Denotes n d g scope f b low v (value_use (all_values us)) (if c then value_sense IntShape (write_byte scope.world es)
        else (if has_tag scope.world.structs x then struct_made scope.world x es else called scope.world (function_of scope.world.functions x) es)))
        (sym F.not_written)
        (subst (λ (c : Bool). Denotes n d g scope f b low v (value_use (all_values us))
        (if c then struct_made scope.world x es else called scope.world (function_of scope.world.functions x) es)) (sym F.not_made)
        (subst (λ (o : Option _). Denotes n d g scope f b low v (value_use (all_values us)) (called scope.world o es)) (sym F.found)
        (denotes_value n d g scope f b low v (all_values us) (renamed (argument z.0) F.gives) F.routine.result _
        (plain_simple (renamed (argument z.0) F.gives) (plain_renamed (argument z.0) F.gives F.plain))
        (plain_below g.regions.count z.0 F.gives F.plain below) (record { type = vt; seat = entered_seat (within i g) at s z.0 v z.2 })
        (F.shape ∙ sym (shape_renamed (argument z.0) F.gives)) gives))))

    -- a call of one of the two that every program has
    called_builtin : (at : ℕ) (x : List ℕ) (c : ℕ) (vs : List Value) (us : List Use) (es : List Sense) (v : Value) → Builtin x c
        → AllDenote n d g scope f b low vs us es
        → rules_of_calls.called (within i g) at (ToBuiltin c) vs ≡ Of v
        → Denotes n d g scope f b low v (value_use (all_values us)) (call_sense scope.world x es)
    called_builtin at x c vs us es v (inl z) h e =
        let e0 : rules_of_calls.called (within i g) at (ToBuiltin 0) vs ≡ Of v =
        subst (λ (k : ℕ). rules_of_calls.called (within i g) at (ToBuiltin k) vs ≡ Of v) z.1 e in
        let y : (rs : List NameOf) × (arguments_fit (within i g) at 0 [] vs ≡ Of rs) × (value at Int ≡ Of v) =
        after_is (arguments_fit (within i g) at 0 [] vs) (λ rs. value at Int) v e0 in
        let a : Arguments (within i g) [] vs _ y.0 = arguments_are (within i g) at 0 [] vs y.0 y.1 in
        subst (λ (k : Bool). Denotes n d g scope f b low v (value_use (all_values us)) (if k then value_sense IntShape (read_byte es)
        else (if bytes_eq x (codes "putchar") then value_sense IntShape (write_byte scope.world es)
        else (if has_tag scope.world.structs x then struct_made scope.world x es else called scope.world (function_of scope.world.functions x) es)))) (sym z.0)
        (no_arguments vs us es a.count h (value_of at Int v y.2))
      where
        no_arguments : (xs0 : List Value) (ps : List Use) (xs : List Sense) → nat_eq 0 (length xs0) ≡ true → AllDenote n d g scope f b low xs0 ps xs
            → Valued v Int
            → Denotes n d g scope f b low v (value_use (all_values ps)) (value_sense IntShape (read_byte xs))
        no_arguments [] [] [] k h t = denotes_value n d g scope f b low v (all_values []) Int IntShape (read_byte []) tt tt t refl
            (gives_byte n d g scope f b low)
        no_arguments [] [] (y ∷ ys) k h t = absurd h
        no_arguments [] (p ∷ ps) ys k h t = absurd h
        no_arguments (a ∷ xs0) ps ys k h t = absurd (not_more (length xs0) k)
    called_builtin at x c vs us es v (inr z) h e =
        let e1 : rules_of_calls.called (within i g) at (ToBuiltin 1) vs ≡ Of v =
        subst (λ (k : ℕ). rules_of_calls.called (within i g) at (ToBuiltin k) vs ≡ Of v) z.2 e in
        let y : (rs : List NameOf) × (arguments_fit (within i g) at 0 (Some Int ∷ []) vs ≡ Of rs) × (value at Int ≡ Of v) =
        after_is (arguments_fit (within i g) at 0 (Some Int ∷ []) vs) (λ rs. value at Int) v e1 in
        let a : Arguments (within i g) (Some Int ∷ []) vs _ y.0 = arguments_are (within i g) at 0 (Some Int ∷ []) vs y.0 y.1 in
        let pass : AllPass n d g scope f b low (IntShape ∷ []) (Int ∷ []) us es =
        all_pass n d g scope f b low loudly (agrees d scope.world g.tables structs) y.0
        (Int ∷ []) vs us es (tt, tt) (eqb-true _ _ a.count) a.convert h in
        subst (λ (k : Bool). Denotes n d g scope f b low v (value_use (all_values us)) (if k then value_sense IntShape (read_byte es)
        else (if bytes_eq x (codes "putchar") then value_sense IntShape (write_byte scope.world es)
        else (if has_tag scope.world.structs x then struct_made scope.world x es else called scope.world (function_of scope.world.functions x) es)))) (sym z.0)
        (subst (λ (k : Bool). Denotes n d g scope f b low v (value_use (all_values us)) (if k then value_sense IntShape (write_byte scope.world es)
        else (if has_tag scope.world.structs x then struct_made scope.world x es else called scope.world (function_of scope.world.functions x) es))) (sym z.1)
        (denotes_value n d g scope f b low v (all_values us) Int IntShape (write_byte scope.world es) tt tt (value_of at Int v y.2) refl
        (gives_written n d g scope f b low us es pass)))

    -- a struct is made so, and a union isn't
    called_tag : (at : ℕ) (x : List ℕ) (u : Tag) (t : Target) (vs : List Value) (us : List Use) (es : List Sense) (v : Value)
        → PlainEntry scope.world x (OfTag u)
        → meant g x ≡ Some (OfTag u) → target at (Some (OfTag u)) ≡ Of t → AllDenote n d g scope f b low vs us es → rules_of_calls.called (within i g) at t vs
        ≡ Of v
        → Denotes n d g scope f b low v (value_use (all_values us)) (call_sense scope.world x es)
    called_tag at x u t vs us es v (inl z) m k h e =
        called_struct n d g scope f b low structs loudly i inside at x u vs us es v z (tag_found g x u m) h
        (subst (λ (y : Target). rules_of_calls.called (within i g) at y vs ≡ Of v) (struct_is u.is_union u at t z.no_union k) e)
    called_tag at x u t vs us es v (inr z) m k h e =
        absurd (no_struct u.sound (subst (λ (c : Bool). rules_of_calls.target_of_tag c u at ≡ Of t) z.union k))
      where
        no_struct : (c : Bool) → other_kind c at ≡ Of t → ⊥
        no_struct true q = cc
        no_struct false q = cc

    -- what a name that is called means
    pub called_entry : (at : ℕ) (x : List ℕ) (o : Option Entry) (t : Target) (vs : List Value) (us : List Use) (es : List Sense) (v : Value)
        → MeansPlain scope.world g
        → ((s : Signature) → meant g x ≡ Some (OfFunction s) → find g.tables x ≡ Some (OfFunction s)) → meant g x ≡ o → target at o ≡ Of t
        → AllDenote n d g scope f b low vs us es → rules_of_calls.called (within i g) at t vs ≡ Of v
        → Denotes n d g scope f b low v (value_use (all_values us)) (call_sense scope.world x es)
    called_entry at x None t vs us es v p there m k h e = absurd cc
    called_entry at x (Some (OfValue (Stored u r))) t vs us es v p there m k h e = absurd cc
    called_entry at x (Some (OfValue (Arrayed u r))) t vs us es v p there m k h e = absurd cc
    called_entry at x (Some (OfValue Counter)) t vs us es v p there m k h e = absurd cc
    called_entry at x (Some (OfValue (Unknown true))) t vs us es v p there m k h e = absurd cc
    called_entry at x (Some (OfValue (Unknown false))) t vs us es v p there m k h e = absurd cc
    called_entry at x (Some (OfTag u)) t vs us es v p there m k h e =
        called_tag at x u t vs us es v (p x (OfTag u) m) m k h e
    called_entry at x (Some OfOther) t vs us es v p there m k h e = absurd cc
    called_entry at x (Some (OfFunction s)) t vs us es v p there m k h e =
        called_function at x s (p x (OfFunction s) m) vs us es v (there s m) h
        (subst (λ (y : Target). rules_of_calls.called (within i g) at y vs ≡ Of v) (sound_is s.sound s t k) e)
    called_entry at x (Some (OfBuiltin c)) t vs us es v p there m k h e =
        called_builtin at x c vs us es v (p x (OfBuiltin c) m) h
        (subst (λ (y : Target). rules_of_calls.called (within i g) at y vs ≡ Of v) (sym (of_is (ToBuiltin c) t k)) e)
