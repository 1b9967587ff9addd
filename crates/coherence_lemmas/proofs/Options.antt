-- What it says that a test, a branch or a look-up gave something.
use Rattle.std.proofs.Common.{◌≡◌, Bool, true, false, Option, Some, None, cond, refl}
use Rattle.std.specs.Prelude.{is_none, is_some, option_and_then, option_map}
use Rattle.coherence_model.specs.Words.{when}

-- what is given where a test holds: the test held, and it is that
pub record Given {A : Type 0} (test : Bool) (x w : A) : Type 0 where
  pub holds : test ≡ true
  pub same : w ≡ x

pub when_some : {A : Type 0} (test : Bool) (x w : A) → when test x ≡ Some w → Given test x w
when_some true x w h = record { holds = refl; same = cc }
when_some false x w h = cc

-- what is given by the one branch of a test whose other branch gives nothing
pub record Passed {A : Type 0} (test : Bool) (o : Option A) (w : A) : Type 0 where
  pub holds : test ≡ true
  pub same : o ≡ Some w

pub if_some : {A : Type 0} (test : Bool) (o : Option A) (w : A) → cond test o None ≡ Some w → Passed test o w
if_some true o w h = record { holds = refl; same = h }
if_some false o w h = cc

-- what is made of what was found
pub record Chained {A B : Type 0} (f : A → Option B) (o : Option A) (w : B) : Type 0 where
  pub x : A
  pub found : o ≡ Some x
  pub same : f x ≡ Some w

pub and_then_some : {A B : Type 0} (f : A → Option B) (o : Option A) (w : B) → option_and_then f o ≡ Some w → Chained f o w
and_then_some f None w h = cc
and_then_some f (Some x) w h = record { x = x; found = refl; same = h }

pub record Mapped {A B : Type 0} (f : A → B) (o : Option A) (w : B) : Type 0 where
  pub x : A
  pub found : o ≡ Some x
  pub same : w ≡ f x

pub map_some : {A B : Type 0} (f : A → B) (o : Option A) (w : B) → option_map f o ≡ Some w → Mapped f o w
map_some f None w h = cc
map_some f (Some x) w h = record { x = x; found = refl; same = cc }

-- nothing is there
pub none_is : {A : Type 0} (o : Option A) → is_none o ≡ true → o ≡ None
none_is None h = refl
none_is (Some x) h = cc

-- something is there
pub record Found {A : Type 0} (o : Option A) : Type 0 where
  pub x : A
  pub found : o ≡ Some x

pub some_is : {A : Type 0} (o : Option A) → is_some o ≡ true → Found o
some_is None h = cc
some_is (Some x) h = record { x = x; found = refl }
