-- What an answer says of what was lent: written, the points are within the limits and the beats in lowest terms, and so many bytes are the file's.
use Rattle.std.proofs.Common.{◌≡◌, refl, sym, Bool, true, false, cond, List, [], ℕ, ◌≤◌, arith, ℤ, length, length-append}
use Rattle.numbers.specs.Answers.{accepted, refused}
use Rattle.score.specs.declared.Score.{Score}
use Rattle.score_writer.specs.Answers.{few_points, in_lowest_terms, file_from, write_answer, written_into}

module _ (score : Score) (meter : List ℕ) (nums : List ℤ) (dens bits : List ℕ) where
  pub record WrittenFile (bytes : ℕ) : Type 0 where
    pub few : few_points score ≡ true
    pub lowest : in_lowest_terms score meter nums dens bits ≡ true
    pub long : bytes ≡ length (file_from score meter nums dens bits)

  pub written_file : (bytes : ℕ) → accepted bytes ≡ write_answer score meter nums dens bits → WrittenFile bytes
  unfolding write_answer
  written_file bytes e = go (few_points score) (in_lowest_terms score meter nums dens bits) refl refl e
    where
      go : (x y : Bool) → few_points score ≡ x → in_lowest_terms score meter nums dens bits ≡ y
          → accepted bytes ≡ cond x (cond y (accepted (length (file_from score meter nums dens bits))) (refused 1 [])) (refused 4 []) → WrittenFile bytes
      go true true p q h = record { few = p; lowest = q; long = cc }
      go true false p q h = let z : ◌≡◌ {A = ℕ} 0 1 = cc in absurd (omega arith)
      go false y p q h = let z : ◌≡◌ {A = ℕ} 0 1 = cc in absurd (omega arith)

  -- the output has room for the file
  pub written_room : (bytes : ℕ) → accepted bytes ≡ write_answer score meter nums dens bits → (old : List ℕ) → bytes ≤ length (written_into score meter nums dens bits old)
  unfolding written_into
  written_room bytes e old = rw (sym e) (simp length-append (omega (arith, (written_file bytes e).long)))
