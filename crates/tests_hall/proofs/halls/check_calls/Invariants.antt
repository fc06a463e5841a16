use Rattle.tests_hall.proofs.halls.check_calls.Given as goal

-- the vector that was just made
abbrev pub ghosts-check_hall : goal.ghosts-check_hall
ghosts-check_hall g a = record { vector = a.board }
