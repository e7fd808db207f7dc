use Rattle.values.specs.Memory.{numbers}
use Rattle.std.proofs.Common.{◌≡◌, ℕ, List, sym, ap, ◌∙◌, subst}
use Rattle.std.proofs.lemmas.Result.{err_from_is_err_and}
use Rattle.spec.specs.Basics.{ok, ◌>>=◌}
use Rattle.spec.specs.Values as s
use Rattle.spec.specs.Values.{EntityUID}
use Rattle.spec.specs.Exprs.{mem}
use Rattle.spec.specs.Evaluate.{of_bool, in_value, apply2}
use Rattle.values.specs.Held.{uid_at, decode, Good, Stands, elements_of}
use Rattle.values.specs.declared.nodes.Value.TheVariants.{Entity, Set}
use Rattle.operators.proofs.Operands.{uid-in, is-entity, no-entity, says-bool}
use Rattle.entities.specs.View.{known}
use Rattle.entities.proofs.Ancestry.{row_in, in-row, in-values, in-entity, in-set, in_rest}
use Rattle.entities.proofs.env.EnvView.mem.Goals as goal

-- what the operator comes to, where the first operand is an entity
first : (h : ℕ) (m : List ℕ) (u : ℕ) (a b : s.Value) (es : s.Entities) → Stands h m (Entity u) a → apply2 mem a b es ≡ in_value (uid_at m u) b es
first h m u a b es S = ap (λ x. x >>= (λ u. in_value u b es)) (is-entity h m u a S)

pub returns-in_default : goal.returns-in_default
returns-in_default c a b S T =
    let m : List ℕ = numbers c.args.self.now.memory in
    let es : s.Entities = known c.args.self.now in
    ap (λ x. x >>= (λ u. in_value u b es)) (no-entity c.args.height m c.args.v a c.in_default.not-Entity S)

pub look_up-requires : goal.look_up-requires
look_up-requires c =
    let m : List ℕ = numbers c.args.self.now.memory in
    uid-in c.args.height m c.in-Entity.uid (subst (Good c.args.height m) c.in-Entity.is c.requires.left)

pub is_in-requires : goal.is_in-requires
is_in-requires c =
    let m : List ℕ = numbers c.args.self.now.memory in
    let h : ℕ = c.args.height in
    record {
      left = uid-in h m c.in-Entity.uid (subst (Good h m) c.in-Entity.is c.requires.left);
      known = row_in c.args.self.now.memory.store.now c.args.self.now.memory.work.now c.in-Entity.uid (known c.args.self.now) c.look_up.result c.look_up.ensures;
      right = uid-in h m c.in-Entity-w.t (subst (Good h m) c.in-Entity-w.is c.requires.right);
    }

pub is_in_any-requires : goal.is_in_any-requires
is_in_any-requires c =
    let m : List ℕ = numbers c.args.self.now.memory in
    let h : ℕ = c.args.height in
    record {
      left = uid-in h m c.in-Entity.uid (subst (Good h m) c.in-Entity.is c.requires.left);
      known = row_in c.args.self.now.memory.store.now c.args.self.now.memory.work.now c.in-Entity.uid (known c.args.self.now) c.look_up.result c.look_up.ensures;
      whole = subst (Good h m) c.in-Set.is c.requires.right;
    }

pub returns-in-Entity-w : goal.returns-in-Entity-w
returns-in-Entity-w c a b S T =
    let m : List ℕ = numbers c.args.self.now.memory in
    let h : ℕ = c.args.height in
    let es : s.Entities = known c.args.self.now in
    let u : EntityUID = uid_at m c.in-Entity.uid in
    says-bool h m c.args.v c.is_in.result (apply2 mem a b es) S.good
    (first h m c.in-Entity.uid a b es (subst (λ v. Stands h m v a) c.in-Entity.is S) ∙ in-entity u es h m c.in-Entity-w.t b (subst (λ w. Stands h m w b) c.in-Entity-w.is T)
    ∙ ap (λ x. ok (of_bool x)) (sym (c.is_in.ensures ∙ in-row c.args.self.now.memory.store.now c.args.self.now.memory.work.now c.in-Entity.uid es c.look_up.result c.look_up.ensures (uid_at m c.in-Entity-w.t))))

pub returns-in_ok-found-in-Set : goal.returns-in_ok-found-in-Set
returns-in_ok-found-in-Set c a b S T =
    let m : List ℕ = numbers c.args.self.now.memory in
    let h : ℕ = c.args.height in
    let es : s.Entities = known c.args.self.now in
    let u : EntityUID = uid_at m c.in-Entity.uid in
    says-bool h m c.args.v c.in_ok-found-in-Set.found (apply2 mem a b es) S.good
    (first h m c.in-Entity.uid a b es (subst (λ v. Stands h m v a) c.in-Entity.is S) ∙ in-set u es h m c.in-Set.p b (subst (λ w. Stands h m w b) c.in-Set.is T)
    ∙ in-values c.args.self.now.memory.store.now c.args.self.now.memory.work.now c.in-Entity.uid es c.look_up.result c.look_up.ensures (elements_of (decode h m (Set c.in-Set.p))) ∙ c.in_ok-found-in-Set.ensures)

pub returns-in_err-found-in-Set : goal.returns-in_err-found-in-Set
returns-in_err-found-in-Set c =
    let p = err_from_is_err_and c.from_residual.result c.from_residual.ensures.1 in
    let m : List ℕ = numbers c.args.self.now.memory in
    let h : ℕ = c.args.height in
    let es : s.Entities = known c.args.self.now in
    let u : EntityUID = uid_at m c.in-Entity.uid in
    rw (p.1, p.2) (λ a b S T.
    first h m c.in-Entity.uid a b es (subst (λ v. Stands h m v a) c.in-Entity.is S) ∙ in-set u es h m c.in-Set.p b (subst (λ w. Stands h m w b) c.in-Set.is T)
    ∙ in-values c.args.self.now.memory.store.now c.args.self.now.memory.work.now c.in-Entity.uid es c.look_up.result c.look_up.ensures (elements_of (decode h m (Set c.in-Set.p))) ∙ c.in_err-found-in-Set.ensures)

pub returns-in_default-w : goal.returns-in_default-w
returns-in_default-w c a b S T =
    let m : List ℕ = numbers c.args.self.now.memory in
    let h : ℕ = c.args.height in
    let es : s.Entities = known c.args.self.now in
    first h m c.in-Entity.uid a b es (subst (λ v. Stands h m v a) c.in-Entity.is S) ∙ in_rest (uid_at m c.in-Entity.uid) es h m c.args.w b c.in_default-w.not-Entity c.in_default-w.not-Set T
