-- What a job file that was read holds.
use Rattle.std.specs.Prelude.{◌≡◌, ℕ, false, List, [], ◌++◌, Some, Ok, vec_items, codes, decimal}
use Rattle.words.specs.Listed.{name_list}
use Rattle.locks.specs.Allowed.{marked}
use Rattle.lowest.specs.Lowest.{empty_meaning}
use Rattle.pile.specs.Pile.{pile_meaning}
use Rattle.model.specs.Contents.{marked_of, first_of, borne, pile_said}
use Rattle.golog.specs.Programs.{nil}
use Rattle.routine.specs.Routines.{routine_prog}
use Rattle.jobfile.specs.declared.jobfile.JobFile.{JobFile}
use Rattle.jobfile.specs.Format.{IsJobFile}
use Rattle.jobfile.specs.Verdict.{Said, verdict}

-- nothing: the lock of one state, fact and act that says no to all, the routine that does nothing, no names, no marks, no text
pub record Blank (j : JobFile) : Type 0 where
  pub lock : pile_meaning j.lock ≡ empty_meaning
  pub facts : name_list j.facts ≡ []
  pub acts : name_list j.acts ≡ []
  pub marks : (a e : ℕ) → marked j.marks a e ≡ false
  pub most : j.most ≡ 0
  pub text : vec_items j.text ≡ []
  pub routine : routine_prog j.routine ≡ nil

-- what a head, what comes behind it and its routine say
pub record Holds (j : JobFile) (said : Said) : Type 0 where
  pub lock : pile_meaning j.lock ≡ pile_said said.head said.contents
  pub facts : name_list j.facts ≡ said.contents.facts
  pub acts : name_list j.acts ≡ said.contents.acts
  pub marks : (a e : ℕ) → marked j.marks a e ≡ marked_of said.contents.marks a e
  pub most : j.most ≡ borne said.contents
  pub text : Some (vec_items j.text) ≡ first_of said.contents.texts
  pub routine : routine_prog j.routine ≡ said.program

-- The file is one that the format allows, and what was read is what it says.
pub record ReadWell (j : JobFile) (file : List ℕ) : Type 0 where
  pub said : Said
  pub accepted : verdict file ≡ Ok said
  pub format : IsJobFile file said
  pub held : Holds j said

-- the line of a file that was read
abbrev pub read_line : (points states : ℕ) → List ℕ
read_line points states = codes "points " ++ (decimal points ++ (codes " states " ++ decimal states))
