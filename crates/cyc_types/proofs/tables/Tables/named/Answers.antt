use Rattle.std.proofs.Common.{◌≡◌, ℕ, Bool, true, false, Bor, List, [], ◌∷◌, Some, cond, ap, refl, sym, ◌∙◌}
use Rattle.std.proofs.lemmas.Slice.Eq.{bytes_eq-Decides}
use Rattle.std.specs.Map.{lookup_key}
use Rattle.std.specs.Prelude.{bytes_eq, option_map}
use Rattle.cyc_types.specs.Known.{Entry}
use Rattle.cyc_types.specs.Tags.{tag_of}
use Rattle.cyc_types.proofs.InOrder.{tag_found}
use Rattle.cyc_types.proofs.tables.Tables.named.Goals as goal

-- a tag that is found was declared under the name that it is looked up by
key_found : (es : List Entry) (x : List ℕ) (key : Bor (List ℕ)) → Some key ≡ lookup_key (λ k. bytes_eq x k.now) es → key.now ≡ x
key_found [] x key h = absurd cc
key_found (e ∷ es) x key h = by (bytes_eq x e.0.now) refl (key_found es x key) h
  where
    by : (b : Bool) → bytes_eq x e.0.now ≡ b → (Some key ≡ lookup_key (λ k. bytes_eq x k.now) es → key.now ≡ x)
        → Some key ≡ cond b (Some e.0) (lookup_key (λ k. bytes_eq x k.now) es) → key.now ≡ x
    by true same rest h = let is : key ≡ e.0 = cc in ap (λ k. k.now) is ∙ sym ((bytes_eq-Decides x e.0.now).0 same)
    by false same rest h = rest h

pub returns-in-Some : goal.returns-in-Some
returns-in-Some c =
    let name = c.args.name.now in
    ap (λ n. Some (tag_of n c.in-Some.known.now.tag)) (key_found c.args.self.now.tags.entries name c.in-Some.declared.now c.in-Some.ensures.key)
    ∙ sym (tag_found c.args.self.now.tags.entries name ∙ ap (option_map (λ k. tag_of name k.tag)) (sym c.in-Some.ensures.value))

pub returns-in-None : goal.returns-in-None
returns-in-None c =
    let name = c.args.name.now in
    sym (tag_found c.args.self.now.tags.entries name ∙ ap (option_map (λ k. tag_of name k.tag)) (sym c.in-None.ensures.value))
