-- Entities and requests, which are four parts each.
use Rattle.std.proofs.Common.{◌≡◌, ℕ, ◌+◌, ◌≤◌, List, ◌++◌, length, drop, sym, refl, ap, ◌∙◌, arith}
use Rattle.std.proofs.lemmas.List.{length-append, append_assoc}
use Rattle.spec.specs.Bytes.{Bytes}
use Rattle.spec.specs.Values.{code_uid}
use Rattle.spec.specs.Calls.{put_entity, authorize}
use Rattle.rows.specs.Rows.{counted, row_attrs}
use Rattle.wire.specs.Read.{Read, got, read_list}
use Rattle.wire.specs.Tags.{put_entity_tag, authorize_tag}
use Rattle.wire.specs.Grammar.{uid, attrs, entity, request, Contents, one, two, three, node, list, fields, read_fields, read_node, decode}
use Rattle.wire.proofs.Exact.{got-long}
use Rattle.reader.specs.Ends.{Got, ending}
use Rattle.reader.proofs.Stood.{is-got}
use Rattle.copy.specs.declared.leaves.Copied.{Copied}
use Rattle.copy.specs.Copied.{row_tree}
use Rattle.copy.specs.Writing.{written, done, after, Room}
use Rattle.copy.specs.Carried.{row_call, Carries}
use Rattle.copy.proofs.Writes.{written-more, Wrote, wrote}
use Rattle.copy.proofs.There.{pair-there}
use Rattle.copy.proofs.Pieces.{node-there}
use Rattle.copy.proofs.WholeCalls.{There, tag_of, call-there}

-- ---- four rows, one behind another
pub written-four : (xs : List ℕ) (n a b c : ℕ) (A B C D : List ℕ) → a ≡ n + length A → b ≡ a + length B → c ≡ b + length C → c ≤ length xs → written (written (written (written xs n A) a B) b C) c D ≡ written xs n (A ++ (B ++ (C ++ D)))
written-four xs n a b c A B C D p q r l =
    let ab = length-append A B in
    let abc = length-append (A ++ B) C in
    ap (λ z. written (written z b C) c D) (written-more xs n A B a p (omega arith))
    ∙ ap (λ z. written z c D) (written-more xs n (A ++ B) C b (omega (arith, ab)) (omega arith))
    ∙ written-more xs n ((A ++ B) ++ C) D c (omega (arith, ab, abc)) l
    ∙ ap (λ z. written xs n z) (append_assoc (A ++ B) C D ∙ append_assoc A B (C ++ D))

pub long-four : (A B C D : List ℕ) → length (A ++ (B ++ (C ++ D))) ≡ length A + (length B + (length C + length D))
long-four A B C D = omega (arith, length-append A (B ++ (C ++ D)), length-append B (C ++ D), length-append C D)

-- ---- four things, one behind another
pub record FourAt {A B C D : Type 0} (a : Bytes → Read A) (b : Bytes → Read B) (c : Bytes → Read C) (d : Bytes → Read D) (bs : Bytes) (x : A × (B × (C × D))) : Type 0 where
  pub n : ℕ
  pub m : ℕ
  pub k : ℕ
  pub l : ℕ
  pub first : (at : ℕ) → at ≡ 1 → a (drop at bs) ≡ got x.0 n
  pub second : (at : ℕ) → at ≡ 1 + n → b (drop at bs) ≡ got x.1.0 m
  pub third : (at : ℕ) → at ≡ 1 + n + m → c (drop at bs) ≡ got x.1.1.0 k
  pub fourth : (at : ℕ) → at ≡ 1 + n + m + k → d (drop at bs) ≡ got x.1.1.1 l

pub entity-there : (bs : Bytes) (t : There bs put_entity_tag) → (x : Contents (fields entity tt)) × FourAt (read_node 65 uid) (read_node 65 attrs) (read_list (read_node 65 uid) 0) (read_node 65 attrs) bs x × (row_call (decode bs) ≡ code_uid x.0 ++ (row_attrs x.1.0 ++ (row_attrs x.1.1.1 ++ counted code_uid x.1.1.0)))
entity-there bs t =
    let w = node-there entity bs 1 66 t.what t.long t.reads in
    let none : 0 ≡ w.takes = got-long tt w.tag 0 w.takes w.opens in
    let x = w.contents in
    let e : read_fields (read_node 65) (fields entity tt) (drop 1 bs) ≡ got x w.rest = ap (λ k. read_fields (read_node 65) (fields entity tt) (drop (1 + k) bs)) none ∙ w.holds in
    let p = pair-there (read_node 65 uid (drop 1 bs)) (λ rest. read_fields (read_node 65) (three (node attrs) (list (one (node uid))) (node attrs)) rest) bs 1 x w.rest e in
    let q = pair-there (read_node 65 attrs (drop (1 + p.first) bs)) (λ rest. read_fields (read_node 65) (two (list (one (node uid))) (node attrs)) rest) bs (1 + p.first) x.1 p.second p.other in
    let r = pair-there (read_list (read_node 65 uid) 0 (drop (1 + p.first + q.first) bs)) (λ rest. read_node 65 attrs rest) bs (1 + p.first + q.first) x.1.1 q.second q.other in (
      x,
      record {
        n = p.first;
        m = q.first;
        k = r.first;
        l = r.second;
        first = λ at i. ap (λ j. read_node 65 uid (drop j bs)) i ∙ p.one;
        second = λ at i. ap (λ j. read_node 65 attrs (drop j bs)) i ∙ q.one;
        third = λ at i. ap (λ j. read_list (read_node 65 uid) 0 (drop j bs)) i ∙ r.one;
        fourth = λ at i. ap (λ j. read_node 65 attrs (drop j bs)) i ∙ r.other;
      },
      ap row_call t.is ∙ ap (λ v. row_call (put_entity v)) w.is,
    )

pub request-there : (bs : Bytes) (t : There bs authorize_tag) → (x : Contents (fields request tt)) × FourAt (read_node 65 uid) (read_node 65 uid) (read_node 65 uid) (read_node 65 attrs) bs x × (row_call (decode bs) ≡ code_uid x.0 ++ (code_uid x.1.0 ++ (code_uid x.1.1.0 ++ row_attrs x.1.1.1)))
request-there bs t =
    let w = node-there request bs 1 66 t.what t.long t.reads in
    let none : 0 ≡ w.takes = got-long tt w.tag 0 w.takes w.opens in
    let x = w.contents in
    let e : read_fields (read_node 65) (fields request tt) (drop 1 bs) ≡ got x w.rest = ap (λ k. read_fields (read_node 65) (fields request tt) (drop (1 + k) bs)) none ∙ w.holds in
    let p = pair-there (read_node 65 uid (drop 1 bs)) (λ rest. read_fields (read_node 65) (three (node uid) (node uid) (node attrs)) rest) bs 1 x w.rest e in
    let q = pair-there (read_node 65 uid (drop (1 + p.first) bs)) (λ rest. read_fields (read_node 65) (two (node uid) (node attrs)) rest) bs (1 + p.first) x.1 p.second p.other in
    let r = pair-there (read_node 65 uid (drop (1 + p.first + q.first) bs)) (λ rest. read_node 65 attrs rest) bs (1 + p.first + q.first) x.1.1 q.second q.other in (
      x,
      record {
        n = p.first;
        m = q.first;
        k = r.first;
        l = r.second;
        first = λ at i. ap (λ j. read_node 65 uid (drop j bs)) i ∙ p.one;
        second = λ at i. ap (λ j. read_node 65 uid (drop j bs)) i ∙ q.one;
        third = λ at i. ap (λ j. read_node 65 uid (drop j bs)) i ∙ r.one;
        fourth = λ at i. ap (λ j. read_node 65 attrs (drop j bs)) i ∙ r.other;
      },
      ap row_call t.is ∙ ap (λ v. row_call (authorize v)) w.is,
    )

-- ---- each part of a request has room behind those that were copied, and all of them are its row
module _ (bs : Bytes) (xs : List ℕ) (to : ℕ) (h : Carries authorize (decode bs) to (length xs)) where
  abbrev parted : (x : Contents (fields request tt)) × FourAt (read_node 65 uid) (read_node 65 uid) (read_node 65 uid) (read_node 65 attrs) bs x × (row_call (decode bs) ≡ code_uid x.0 ++ (code_uid x.1.0 ++ (code_uid x.1.1.0 ++ row_attrs x.1.1.1)))
  parted = request-there bs (call-there bs authorize_tag (ap tag_of h.is))

  long : to + (length (code_uid parted.0.0) + (length (code_uid parted.0.1.0) + (length (code_uid parted.0.1.1.0) + length (row_attrs parted.0.1.1.1)))) ≡ to + length (row_call (decode bs))
  long = let x = parted.0 in omega (arith, ap length parted.2, long-four (code_uid x.0) (code_uid x.1.0) (code_uid x.1.1.0) (row_attrs x.1.1.1))

  pub principal-room : Room (row_tree uid) (read_node 65 uid (drop 1 bs)) to (length xs)
  principal-room = record { what = parted.0.0; long = parted.1.n; is = parted.1.first 1 refl; fits = omega (arith, long, h.fits) }

  module _ (ys : List ℕ) (p : Copied) (k : length ys ≡ length xs) (d : done ys p ≡ after (row_tree uid) xs to 1 (read_node 65 uid (drop 1 bs))) where
    principal : Wrote ys xs (code_uid parted.0.0) to 1 parted.1.n p
    principal = wrote (row_tree uid) xs ys to 1 p _ parted.0.0 parted.1.n d (parted.1.first 1 refl)

    second : read_node 65 uid (drop p.end bs) ≡ got parted.0.1.0 parted.1.m
    second = parted.1.second p.end principal.ends

    pub action-room : Room (row_tree uid) (read_node 65 uid (drop p.end bs)) p.to (length ys)
    action-room = record { what = parted.0.1.0; long = parted.1.m; is = second; fits = omega (arith, long, h.fits, principal.goes, k) }

    module _ (zs : List ℕ) (q : Copied) (l : length zs ≡ length ys) (e : done zs q ≡ after (row_tree uid) ys p.to p.end (read_node 65 uid (drop p.end bs))) where
      action : Wrote zs ys (code_uid parted.0.1.0) p.to p.end parted.1.m q
      action = wrote (row_tree uid) ys zs p.to p.end q _ parted.0.1.0 parted.1.m e second

      third : read_node 65 uid (drop q.end bs) ≡ got parted.0.1.1.0 parted.1.k
      third = parted.1.third q.end (omega (arith, principal.ends, action.ends))

      pub resource-room : Room (row_tree uid) (read_node 65 uid (drop q.end bs)) q.to (length zs)
      resource-room = record { what = parted.0.1.1.0; long = parted.1.k; is = third; fits = omega (arith, long, h.fits, principal.goes, action.goes, k, l) }

      module _ (ws : List ℕ) (r : Copied) (m : length ws ≡ length zs) (f : done ws r ≡ after (row_tree uid) zs q.to q.end (read_node 65 uid (drop q.end bs))) where
        resource : Wrote ws zs (code_uid parted.0.1.1.0) q.to q.end parted.1.k r
        resource = wrote (row_tree uid) zs ws q.to q.end r _ parted.0.1.1.0 parted.1.k f third

        fourth : read_node 65 attrs (drop r.end bs) ≡ got parted.0.1.1.1 parted.1.l
        fourth = parted.1.fourth r.end (omega (arith, principal.ends, action.ends, resource.ends))

        pub context-room : Room row_attrs (read_node 65 attrs (drop r.end bs)) r.to (length ws)
        context-room = record { what = parted.0.1.1.1; long = parted.1.l; is = fourth; fits = omega (arith, long, h.fits, principal.goes, action.goes, resource.goes, k, l, m) }

        pub request-written : (vs : List ℕ) (s : Copied) → done vs s ≡ after row_attrs ws r.to r.end (read_node 65 attrs (drop r.end bs)) → (vs ≡ written xs to (row_call (decode bs))) × (s.to ≡ to + length (row_call (decode bs)))
        request-written vs s g =
            let x = parted.0 in
            let context = wrote row_attrs ws vs r.to r.end s _ x.1.1.1 parted.1.l g fourth in (
              context.rows ∙ ap (λ z. written z r.to (row_attrs x.1.1.1)) (resource.rows ∙ ap (λ z. written z q.to (code_uid x.1.1.0)) (action.rows ∙ ap (λ z. written z p.to (code_uid x.1.0)) principal.rows))
                  ∙ written-four xs to p.to q.to r.to (code_uid x.0) (code_uid x.1.0) (code_uid x.1.1.0) (row_attrs x.1.1.1) principal.goes action.goes resource.goes (omega (arith, h.fits, long, principal.goes, action.goes, resource.goes))
                  ∙ ap (λ z. written xs to z) (sym parted.2),
              omega (arith, long, principal.goes, action.goes, resource.goes, context.goes),
            )

-- ---- and those of an entity, whose tags are copied before the ancestors that they stand behind
module _ (bs : Bytes) (xs : List ℕ) (to : ℕ) (h : Carries put_entity (decode bs) to (length xs)) where
  abbrev held : (x : Contents (fields entity tt)) × FourAt (read_node 65 uid) (read_node 65 attrs) (read_list (read_node 65 uid) 0) (read_node 65 attrs) bs x × (row_call (decode bs) ≡ code_uid x.0 ++ (row_attrs x.1.0 ++ (row_attrs x.1.1.1 ++ counted code_uid x.1.1.0)))
  held = entity-there bs (call-there bs put_entity_tag (ap tag_of h.is))

  whole : to + (length (code_uid held.0.0) + (length (row_attrs held.0.1.0) + (length (row_attrs held.0.1.1.1) + length (counted code_uid held.0.1.1.0)))) ≡ to + length (row_call (decode bs))
  whole = let x = held.0 in omega (arith, ap length held.2, long-four (code_uid x.0) (row_attrs x.1.0) (row_attrs x.1.1.1) (counted code_uid x.1.1.0))

  pub uid-room : Room (row_tree uid) (read_node 65 uid (drop 1 bs)) to (length xs)
  uid-room = record { what = held.0.0; long = held.1.n; is = held.1.first 1 refl; fits = omega (arith, whole, h.fits) }

  module _ (ys : List ℕ) (p : Copied) (k : length ys ≡ length xs) (d : done ys p ≡ after (row_tree uid) xs to 1 (read_node 65 uid (drop 1 bs))) where
    name : Wrote ys xs (code_uid held.0.0) to 1 held.1.n p
    name = wrote (row_tree uid) xs ys to 1 p _ held.0.0 held.1.n d (held.1.first 1 refl)

    behind-name : read_node 65 attrs (drop p.end bs) ≡ got held.0.1.0 held.1.m
    behind-name = held.1.second p.end name.ends

    pub attributes-room : Room row_attrs (read_node 65 attrs (drop p.end bs)) p.to (length ys)
    attributes-room = record { what = held.0.1.0; long = held.1.m; is = behind-name; fits = omega (arith, whole, h.fits, name.goes, k) }

    module _ (zs : List ℕ) (q : Copied) (l : length zs ≡ length ys) (e : done zs q ≡ after row_attrs ys p.to p.end (read_node 65 attrs (drop p.end bs))) where
      attributes : Wrote zs ys (row_attrs held.0.1.0) p.to p.end held.1.m q
      attributes = wrote row_attrs ys zs p.to p.end q _ held.0.1.0 held.1.m e behind-name

      ancestors : read_list (read_node 65 uid) 0 (drop q.end bs) ≡ got held.0.1.1.0 held.1.k
      ancestors = held.1.third q.end (omega (arith, name.ends, attributes.ends))

      pub ancestors-there : Got (read_list (read_node 65 uid) 0 (drop q.end bs))
      ancestors-there = is-got _ held.0.1.1.0 held.1.k ancestors

      module _ (past : ℕ) (i : past ≡ ending q.end (read_list (read_node 65 uid) 0 (drop q.end bs))) where
        behind-ancestors : read_node 65 attrs (drop past bs) ≡ got held.0.1.1.1 held.1.l
        behind-ancestors = held.1.fourth past (omega (arith, i ∙ ap (λ R. ending q.end R) ancestors, name.ends, attributes.ends))

        pub tags-room : Room row_attrs (read_node 65 attrs (drop past bs)) q.to (length zs)
        tags-room = record { what = held.0.1.1.1; long = held.1.l; is = behind-ancestors; fits = omega (arith, whole, h.fits, name.goes, attributes.goes, k, l) }

        module _ (ws : List ℕ) (r : Copied) (m : length ws ≡ length zs) (f : done ws r ≡ after row_attrs zs q.to past (read_node 65 attrs (drop past bs))) where
          tags : Wrote ws zs (row_attrs held.0.1.1.1) q.to past held.1.l r
          tags = wrote row_attrs zs ws q.to past r _ held.0.1.1.1 held.1.l f behind-ancestors

          pub ancestors-room : Room (counted code_uid) (read_list (read_node 65 uid) 0 (drop q.end bs)) r.to (length ws)
          ancestors-room = record { what = held.0.1.1.0; long = held.1.k; is = ancestors; fits = omega (arith, whole, h.fits, name.goes, attributes.goes, tags.goes, k, l, m) }

          pub entity-written : (vs : List ℕ) (s : Copied) → done vs s ≡ after (counted code_uid) ws r.to q.end (read_list (read_node 65 uid) 0 (drop q.end bs)) → (vs ≡ written xs to (row_call (decode bs))) × (s.to ≡ to + length (row_call (decode bs)))
          entity-written vs s g =
              let x = held.0 in
              let last = wrote (counted code_uid) ws vs r.to q.end s _ x.1.1.0 held.1.k g ancestors in (
                last.rows ∙ ap (λ z. written z r.to (counted code_uid x.1.1.0)) (tags.rows ∙ ap (λ z. written z q.to (row_attrs x.1.1.1)) (attributes.rows ∙ ap (λ z. written z p.to (row_attrs x.1.0)) name.rows))
                    ∙ written-four xs to p.to q.to r.to (code_uid x.0) (row_attrs x.1.0) (row_attrs x.1.1.1) (counted code_uid x.1.1.0) name.goes attributes.goes tags.goes (omega (arith, h.fits, whole, name.goes, attributes.goes, tags.goes))
                    ∙ ap (λ z. written xs to z) (sym held.2),
                omega (arith, whole, name.goes, attributes.goes, tags.goes, last.goes),
              )
