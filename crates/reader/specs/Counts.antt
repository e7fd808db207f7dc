-- What is counted along a tree, as its size or the length of its row: what each part adds to it. Assumes nothing: these are definitions.
use Rattle.std.specs.Prelude.{◌≡◌, ℕ, ◌+◌, ◌*◌, ◌^◌, ◌<◌, ◌≤◌, Ok, Err, Result}
use Rattle.spec.specs.Bytes.{Bytes}
use Rattle.spec.specs.Calls.{size_text, sum_of}
use Rattle.wire.specs.Read.{got}
use Rattle.wire.specs.Grammar.{Kind, Tree, Tag, Field, part, small, word, text, pattern, node, list, Fields, no, one, more, Content, Contents, read_tag, fields, make}
use Rattle.wire.specs.Sizes.{size_tree}
use Rattle.reader.specs.declared.grammar.Items.{Items}
use Rattle.reader.specs.declared.scan.Found.{Found}
use Rattle.reader.specs.Code.{items_of}

pub record Counts : Type 0 where
  -- of a whole tree
  pub tree : (k : Kind) → Tree k → ℕ
  -- of a part
  pub part : ℕ
  -- of a number in a tree of a kind, or of a byte that tells things apart
  pub unit : Kind → ℕ
  -- before a tree
  pub head : Kind → ℕ
  -- before the elements of a list, and with each
  pub beginning : Fields → ℕ
  pub each : Fields → ℕ
  -- a byte takes at most so many
  pub weight : ℕ

-- u is what a number counts
abbrev mutual
  pub count_field : Counts → ℕ → (f : Field) → Content f → ℕ
  count_field c u part x = c.part
  count_field c u (small e) x = u
  count_field c u word x = u
  count_field c u text x = size_text x
  count_field c u pattern x = size_text x
  count_field c u (node k) x = c.tree k x
  count_field c u (list fs) xs = c.beginning fs + sum_of (λ x. c.each fs + count_fields c u fs x) xs

  pub count_fields : Counts → ℕ → (fs : Fields) → Contents fs → ℕ
  count_fields c u no x = 0
  count_fields c u (one f) x = count_field c u f x
  count_fields c u (more f fs) x = count_field c u f x.0 + count_fields c u fs x.1

-- a tree counts what its form and its fields do, and each of these no more than its bytes can pay
pub record Lawful (c : Counts) : Type 0 where
  pub made : (k : Kind) (g : Tag k) (x : Contents (fields k g)) → c.tree k (make k g x) ≡ c.head k + count_fields c (c.unit k) (fields k g) x
  pub some_weight : 1 ≤ c.weight
  pub units : (k : Kind) → c.part + c.unit k ≤ c.weight
  pub heads : (k : Kind) (h : ℕ) (bs : Bytes) (g : Tag k) (n : ℕ) → read_tag k h bs ≡ got g n → c.head k + c.part * n ≤ c.weight * n
  pub begins : (i : Items) → c.beginning (items_of i) ≤ c.weight
  pub elements : (i : Items) → c.each (items_of i) ≤ c.weight

-- what is counted along so many bytes is a number of the machine
abbrev pub Countable : Counts → ℕ → Type 0
Countable c len = c.weight * (len + 1) + c.part * 2 ^ 62 < 2 ^ 64

-- it lies among the bytes, and they pay for it, but for p parts, and with s bytes that tell things apart
abbrev pub Paid : Counts → ℕ → ℕ → ℕ → ℕ → Result Found ℕ → Type 0
Paid c p s at len (Ok f) = (at ≤ f.end) × (f.end ≤ len) × (c.weight * at + f.size + c.part * s ≤ c.weight * f.end + c.part * p)
Paid c p s at len (Err k) = k ≤ len

-- the size of a tree
abbrev pub sizes : Counts
sizes = record { tree = size_tree; part = 1; unit = λ k. 0; head = λ k. 0; beginning = λ fs. 0; each = λ fs. 0; weight = 1 }
