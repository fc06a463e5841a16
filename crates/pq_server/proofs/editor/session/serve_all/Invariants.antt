use Rattle.pq_server.proofs.editor.session.serve_all.Given as goal

-- the vector that was just made
abbrev pub ghosts-serve_in : goal.ghosts-serve_in
ghosts-serve_in g a = record { vector = a.board }
