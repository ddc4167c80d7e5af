-- What a choice by a test says.
use Rattle.bt_meta.proofs.Base.{◌≡◌, Bool, true, false, None, Some, refl, if◌then◌else◌}

pub test_of_some : {A : Type 0} (test : Bool) (x y : A) → Some y ≡ (if test then Some x else None) → (test ≡ true) × (y ≡ x)
test_of_some true x y e = (refl, cc)
test_of_some false x y e = (cc, cc)

pub test_of_none : {A : Type 0} (test : Bool) (x : A) → None ≡ (if test then Some x else None) → test ≡ false
test_of_none true x e = cc
test_of_none false x e = refl
