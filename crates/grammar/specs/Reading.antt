-- What a reader of octets gives, whatever its faults are: a value, or the fault that it met. And what a function of a
-- program answers, beside what a reader gives.
use Rattle.std.specs.Prelude.{◌≡◌, Result, Ok, Err}

-- Goes on with what was read.
abbrev pub on_read : {F A B : Type 0} → Result A F → (A → Result B F) → Result B F
on_read (Ok x) f = f x
on_read (Err e) f = Err e

-- What an error of a program says of a reading: that it met this fault, that memory ran out, or that something was
-- wrong before there was a reading, as a text that is too long.
pub data Cause (F : Type 0) : Type 0 where
  Met : F → Cause F
  OutOfMemory : Cause F
  Unread : Cause F

-- The cause is true of what reading gives. Where memory ran out nothing is known of it.
abbrev pub Tells : {X F : Type 0} → Cause F → Result X F → Type 0
Tells (Met e) read = read ≡ Err e
Tells OutOfMemory read = Unit {0}
Tells Unread read = ⊥

-- What was answered, seen by view, is what reading gives, unless memory ran out.
abbrev pub Gives : {X Y E F : Type 0} → (E → Cause F) → (X → Y) → Result X E → Result Y F → Type 0
Gives cause view (Ok x) read = read ≡ Ok (view x)
Gives cause view (Err e) read = Tells (cause e) read
