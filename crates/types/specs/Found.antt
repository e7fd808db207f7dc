-- What a record type has of a name.
use Rattle.std.specs.Prelude.{◌≡◌, ℕ, Bool, List, length, Some, None, Option}
use Rattle.std.proofs.Math.Option as o
use Rattle.spec.specs.Basics.{Text, lookup}
use Rattle.spec.specs.Types.{QualifiedType, attributes}
use Rattle.types.specs.Held.{attrs_at, AttrsIn, decode, Good}
use Rattle.types.specs.declared.attributes.Found.{Found}

abbrev pub AttrFound : ℕ → List ℕ → List ℕ → Option Found → o.Option QualifiedType → Type 0
AttrFound h m w None x = x ≡ o.none
AttrFound h m w (Some f) x = Good h m w 0 (length w) f.ty × (x ≡ o.some (record { required = f.required; type = decode h m w f.ty }))

-- the same to each height to which the record is good
abbrev pub Looked : List ℕ → List ℕ → Bool → ℕ → Text → Option Found → Type 0
Looked m w b p a r = (h : ℕ) → AttrsIn (Good h m w 0 (length w)) b m w (length w) p → AttrFound h m w r (lookup a (attributes (attrs_at (decode h m w) b m w p)))
