mod OneEnds
