-- What was said is not said again, and points come up to their limits.
use Rattle.std.proofs.Common.{Option, None, Some, Ok, Err, is_some, true, false}
use mathlib.Core.Path.{◌≡◌, refl, ap}
use Prim.Native.Nat.{◌≤◌, ◌<◌}
use borrow.Author.Tests.{lt-ltb, le-ltb}
use Rattle.items.specs.declared.Reason.TheVariants.{Twice, ManyMeters, ManyTempos}
use Rattle.form.specs.declared.draft.Draft.{Draft}
use Rattle.form.specs.Drafts.{unless_said, more_meters, more_tempos, with_meter, with_point}

-- ---- said once

module _ {A : Type 0} (said : Option A) (next : Draft) where
  pub said_twice : is_some said ≡ true → Err Twice ≡ unless_said said next
  unfolding unless_said
  said_twice e = go said e
    where
      go : (o : Option A) → is_some o ≡ true → Err Twice ≡ unless_said o next
      go None e = cc
      go (Some a) e = refl

  pub said_first : is_some said ≡ false → Ok next ≡ unless_said said next
  unfolding unless_said
  said_first e = go said e
    where
      go : (o : Option A) → is_some o ≡ false → Ok next ≡ unless_said o next
      go None e = refl
      go (Some a) e = cc

-- ---- points

module _ (draft : Draft) where
  pub meters_full : 256 ≤ draft.meters → Err ManyMeters ≡ with_meter draft
  unfolding with_meter
  meters_full h = rw (le-ltb draft.meters 256 h)

  pub meters_more : {next : Draft} → draft.meters < 256 → next ≡ more_meters draft → Ok next ≡ with_meter draft
  unfolding with_meter
  meters_more h e = rw (lt-ltb draft.meters 256 h) (ap Ok e)

  pub tempos_full : 1024 ≤ draft.tempos → Err ManyTempos ≡ with_point draft
  unfolding with_point
  tempos_full h = rw (le-ltb draft.tempos 1024 h)

  pub tempos_more : {next : Draft} → draft.tempos < 1024 → next ≡ more_tempos draft → Ok next ≡ with_point draft
  unfolding with_point
  tempos_more h e = rw (lt-ltb draft.tempos 1024 h) (ap Ok e)
