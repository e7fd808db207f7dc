use Rattle.std.proofs.Common.{◌≡◌, ℕ, ◌+◌, cond, drop, Some, None, sym, ap, ◌∙◌, arith}
use Rattle.spec.specs.Bytes.{Bytes}
use Rattle.spec.specs.Values.{Request}
use Rattle.spec.specs.Calls.{canonical_record}
use Rattle.wire.specs.Read.{got}
use Rattle.wire.specs.Grammar.{uid, attrs, request, read_node}
use Rattle.reader.specs.Ends.{Got, ending}
use Rattle.reader.proofs.Stood.{got-is, is-got}
use Rattle.canonical.specs.Kept.{judged}
use Rattle.canonical.proofs.Parts.{ending-got, RequestAt, request-apart}
use Rattle.canonical.proofs.kept_request.Goals as goal

-- the parts of a request, each where the one before it ends
module _ (bs : Bytes) (h : Got (read_node 66 request (drop 1 bs))) where
  one : Request
  one = (got-is (read_node 66 request (drop 1 bs)) h).0

  size : ℕ
  size = (got-is (read_node 66 request (drop 1 bs)) h).1

  is_one : read_node 66 request (drop 1 bs) ≡ got one size
  unfolding one size
  is_one = (got-is (read_node 66 request (drop 1 bs)) h).2

  parts : RequestAt bs size one
  parts = request-apart bs one size is_one

  pub has-principal : Got (read_node 65 uid (drop 1 bs))
  has-principal = is-got _ _ _ parts.principal-at

  module _ (a : ℕ) (is-a : a ≡ ending 1 (read_node 65 uid (drop 1 bs))) where
    action-at : read_node 65 uid (drop a bs) ≡ got one.action parts.b
    action-at = ap (λ z. read_node 65 uid (drop z bs)) (ending-got 1 a _ _ _ is-a parts.principal-at) ∙ parts.action-at

    pub has-action : Got (read_node 65 uid (drop a bs))
    has-action = is-got _ _ _ action-at

    module _ (b : ℕ) (is_b : b ≡ ending a (read_node 65 uid (drop a bs))) where
      resource-at : read_node 65 uid (drop b bs) ≡ got one.resource parts.c
      resource-at = let p : b ≡ 1 + parts.a + parts.b = omega (arith, ending-got a b _ _ _ is_b action-at, ending-got 1 a _ _ _ is-a parts.principal-at) in ap (λ z. read_node 65 uid (drop z bs)) p ∙ parts.resource-at

      pub has-resource : Got (read_node 65 uid (drop b bs))
      has-resource = is-got _ _ _ resource-at

      module _ (c : ℕ) (is_c : c ≡ ending b (read_node 65 uid (drop b bs))) where
        abbrev at-context : c ≡ 1 + parts.a + parts.b + parts.c
        at-context = omega (arith, ending-got b c _ _ _ is_c resource-at, ending-got a b _ _ _ is_b action-at, ending-got 1 a _ _ _ is-a parts.principal-at)

        context-at : read_node 65 attrs (drop c bs) ≡ got one.context parts.d
        context-at = ap (λ z. read_node 65 attrs (drop z bs)) at-context ∙ parts.context-at

        pub has-context : Got (read_node 65 attrs (drop c bs))
        has-context = is-got _ _ _ context-at

        pub says : judged canonical_record c (read_node 65 attrs (drop c bs)) ≡ judged (λ q. canonical_record q.context) 1 (read_node 66 request (drop 1 bs))
        says =
            let long : c + parts.d ≡ 1 + size = omega (arith, at-context, parts.long) in
            ap (judged canonical_record c) context-at ∙ ap (λ n. cond (canonical_record one.context) (Some n) None) long ∙ sym (ap (judged (λ q. canonical_record q.context) 1) is_one)

pub node_end-action-requires-clause-stands : goal.node_end-action-requires-clause-stands
node_end-action-requires-clause-stands c = has-principal c.args.bytes.now c.requires.1

pub node_end-resource-requires-clause-stands : goal.node_end-resource-requires-clause-stands
node_end-resource-requires-clause-stands c = has-action c.args.bytes.now c.requires.1 c.node_end-action.result c.node_end-action.ensures.is

pub node_end-context-requires-clause-stands : goal.node_end-context-requires-clause-stands
node_end-context-requires-clause-stands c = has-resource c.args.bytes.now c.requires.1 c.node_end-action.result c.node_end-action.ensures.is c.node_end-resource.result c.node_end-resource.ensures.is

pub record-requires : goal.record-requires
record-requires c =
    (c.node_end-context.ensures.within.1, has-context c.args.bytes.now c.requires.1 c.node_end-action.result c.node_end-action.ensures.is c.node_end-resource.result c.node_end-resource.ensures.is c.node_end-context.result c.node_end-context.ensures.is)

pub returns : goal.returns
returns c =
    c.record.ensures.is ∙ says c.args.bytes.now c.requires.1 c.node_end-action.result c.node_end-action.ensures.is c.node_end-resource.result c.node_end-resource.ensures.is c.node_end-context.result c.node_end-context.ensures.is
